use Rattle.std.proofs.Common.{subst}
use Rattle.marks.specs.Passes.{WrapDid}
use Rattle.wrapping.proofs.wraps.wrap_modules.Goals as goal

pub returns : goal.returns
returns g c o = subst (λ s. WrapDid (g.S.ModuleSource.meaning s) o c.args.rows.now c.mark_wraps.new.rows) c.new.ensures (c.mark_wraps.ensures o)
