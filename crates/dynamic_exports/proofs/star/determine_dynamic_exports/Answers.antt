use Rattle.std.proofs.Common.{subst}
use Rattle.marks.specs.Passes.{StarDid}
use Rattle.dynamic_exports.proofs.star.determine_dynamic_exports.Goals as goal

pub returns : goal.returns
returns g c o = subst (λ s. StarDid (g.S.ModuleSource.meaning s) o c.args.rows.now c.mark_dynamic.new.rows) c.new.ensures (c.mark_dynamic.ensures o)
