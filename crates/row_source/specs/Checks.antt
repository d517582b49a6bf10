-- The first fault of rows.
--
--   total                how many record rows some module rows count
--   blank                an external row counts no record
--   targeted             a target is none or below 2^32 - 1
--   module_row_verdict   one module row among the others: blank if external, its records beginning where those before it end
--   record_row_verdict   one record row
--   last_sum_verdict     the module rows count all record rows
--   rows_verdict         all checks in their order
use Rattle.std.specs.Prelude.{ℕ, ◌-◌, ◌^◌, Bool, true, not, List, length, take, Some, None, sum_by, Option, ◌==◌, nat_lt}
use Rattle.faults.specs.declared.Fault.{Fault}
use Rattle.faults.specs.declared.Layer.TheVariants.{Source}
use Rattle.faults.specs.declared.Refusal.{Refusal}
use Rattle.faults.specs.declared.Refusal.TheVariants.{TooManyModules, TooManyRecords, FieldOutOfValues, WrongFirstRecord}
use Rattle.faults.specs.Faults.{Verdict, fault, refuse_if, and_then, each}
use Rattle.source.specs.declared.ImportRecord.{ImportRecord}
use Rattle.source.specs.declared.Module.{Module}
use Rattle.source.specs.declared.Module.TheVariants.{External, Normal}
use Rattle.source.specs.Numbers.{module_limit, record_limit}
use Rattle.row_source.specs.declared.rows.ModuleRow.{ModuleRow}

abbrev pub total : List ModuleRow → ℕ
total rows = sum_by (λ (row : ModuleRow). row.count) rows

abbrev pub blank : Module → ℕ → Bool
blank External count = count == 0
blank (Normal n) count = true

abbrev pub targeted : Option ℕ → Bool
targeted (Some t) = nat_lt t (2 ^ 32 - 1)
targeted None = true

abbrev pub row_fault : Refusal → ℕ → Fault
row_fault rule at = fault rule Source at 0

abbrev pub module_row_verdict : List ModuleRow → ℕ → ModuleRow → Verdict
module_row_verdict rows m row =
    and_then (refuse_if (not (blank row.described row.count)) (row_fault FieldOutOfValues m))
    (refuse_if (not (row.first == total (take m rows))) (row_fault WrongFirstRecord m))

abbrev pub record_row_verdict : ℕ → ImportRecord → Verdict
record_row_verdict i row = refuse_if (not (targeted row.target)) (row_fault FieldOutOfValues i)

abbrev pub last_sum_verdict : List ModuleRow → ℕ → Verdict
last_sum_verdict rows records = refuse_if (not (total rows == records)) (row_fault WrongFirstRecord (length rows))

abbrev pub rows_verdict : List ModuleRow → List ImportRecord → Verdict
rows_verdict modules records =
    and_then (refuse_if (nat_lt module_limit (length modules)) (row_fault TooManyModules 0))
    (and_then (refuse_if (nat_lt record_limit (length records)) (row_fault TooManyRecords 0))
    (and_then (each (module_row_verdict modules) 0 modules)
    (and_then (each record_row_verdict 0 records) (last_sum_verdict modules (length records)))))
