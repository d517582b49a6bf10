use Rattle.std.proofs.Common.{subst}
use Rattle.marks.specs.Passes.{EntriesDid}
use Rattle.entries.proofs.reach.determine_entries.Goals as goal

pub returns : goal.returns
returns g c o = subst (λ s. EntriesDid (g.S.ModuleSource.meaning s) o c.args.rows.now c.mark_entries.new.rows) c.new.ensures (c.mark_entries.ensures o)
