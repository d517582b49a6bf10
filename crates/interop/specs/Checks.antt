-- Rows that name a module past the source's end are refused, whichever namespace they are of.
--
--   past_source         the fault of a row
--   module_verdict      a row that names a module: refused where the source has no such module
--   observer_verdict, importer_verdict     one observer row; one import row
--   observers_verdict, imports_verdict     all of them: the first that is refused decides
--   rows_verdict        observer rows before import rows
--   answer              what is answered of rows that are checked: the fault where they are refused
use Rattle.std.specs.Prelude.{ℕ, not, List, Ok, Err, Result, nat_lt}
use Rattle.faults.specs.declared.Fault.{Fault}
use Rattle.faults.specs.declared.Layer.TheVariants.{Interop}
use Rattle.faults.specs.declared.Refusal.TheVariants.{RowPastSource}
use Rattle.faults.specs.Faults.{Verdict, fault, refuse_if, and_then, each}
use Rattle.source.specs.Meaning.{Meaning, count_of}
use Rattle.interop.specs.declared.rows.ImportRow.{ImportRow}
use Rattle.interop.specs.declared.rows.ObserverRow.{ObserverRow}

abbrev pub past_source : ℕ → Fault
past_source row = fault RowPastSource Interop row 0

abbrev pub module_verdict : Meaning → ℕ → ℕ → Verdict
module_verdict w row m = refuse_if (not (nat_lt m (count_of w))) (past_source row)

abbrev pub observer_verdict : Meaning → ℕ → ObserverRow → Verdict
observer_verdict w i row = module_verdict w i row.observer

abbrev pub importer_verdict : Meaning → ℕ → ImportRow → Verdict
importer_verdict w i row = module_verdict w i row.importer

abbrev pub observers_verdict : Meaning → List ObserverRow → Verdict
observers_verdict w rows = each (observer_verdict w) 0 rows

abbrev pub imports_verdict : Meaning → List ImportRow → Verdict
imports_verdict w rows = each (importer_verdict w) 0 rows

abbrev pub rows_verdict : Meaning → List ObserverRow → List ImportRow → Verdict
rows_verdict w observers imports = and_then (observers_verdict w observers) (imports_verdict w imports)

abbrev pub answer : {A : Type 0} → Verdict → A → Result A Fault
answer (Ok u) a = Ok a
answer (Err f) a = Err f
