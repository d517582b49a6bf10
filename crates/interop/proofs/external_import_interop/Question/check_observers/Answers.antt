use Rattle.std.proofs.Common.{rules}
use Rattle.interop.specs.declared.rows.ObserverRow.{ObserverRow}
use Rattle.interop.proofs.external_import_interop.Question.check_observers.Goals as goal

pub returns : goal.returns
returns g c = c.check_each.ensures (λ (row : ObserverRow). row.observer) (λ row m is. search rules)
