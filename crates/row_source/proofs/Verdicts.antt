-- The verdict on one row, and on all of them, from what the code tests. Assumes nothing.
use Rattle.std.proofs.Common.{◌≡◌, ℕ, zero, suc, ◌<◌, ◌≤◌, true, false, not, eqb, ltb, List, length, get_or, take, drop, Ok, Err, refl, ◌∙◌, add-one, arith}
use Rattle.std.proofs.lemmas.Bool.{not_from_true, not_from_false, eq-eqb, ne_eqb, le-ltb}
use Rattle.faults.specs.declared.Refusal.TheVariants.{TooManyRecords, FieldOutOfValues, WrongFirstRecord}
use Rattle.faults.specs.Faults.{Verdict, refuse_if, and_then, each}
use Rattle.faults.proofs.Checks.{refuses, passes, first_refuses, first_passes, each_passes}
use Rattle.source.specs.declared.ImportRecord.{ImportRecord}
use Rattle.source.specs.Numbers.{module_limit, record_limit}
use Rattle.row_source.specs.declared.rows.ModuleRow.{ModuleRow}
use Rattle.row_source.specs.Checks.{total, blank, targeted, row_fault, module_row_verdict, record_row_verdict, last_sum_verdict, rows_verdict}
use Rattle.row_source.specs.Propers.{zero_record}

module _ (rows : List ModuleRow) (m : ℕ) (row : ModuleRow) where
  blank_verdict : Verdict
  blank_verdict = refuse_if (not (blank row.described row.count)) (row_fault FieldOutOfValues m)

  first_verdict : Verdict
  first_verdict = refuse_if (not (eqb row.first (total (take m rows)))) (row_fault WrongFirstRecord m)

  pub module_row_not_blank : blank row.described row.count ≡ false → module_row_verdict rows m row ≡ Err (row_fault FieldOutOfValues m)
  unfolding blank_verdict first_verdict
  module_row_not_blank e = first_refuses blank_verdict first_verdict (row_fault FieldOutOfValues m) (refuses _ _ (not_from_false _ e))

  module _ (ok : blank row.described row.count ≡ true) where
    blank_passes : module_row_verdict rows m row ≡ first_verdict
    unfolding blank_verdict first_verdict
    blank_passes = first_passes blank_verdict first_verdict (passes _ _ (not_from_true _ ok))

    pub module_row_elsewhere : (row.first ≡ total (take m rows) → ⊥) → module_row_verdict rows m row ≡ Err (row_fault WrongFirstRecord m)
    unfolding first_verdict
    module_row_elsewhere ne = blank_passes ∙ refuses _ _ (not_from_false _ (ne_eqb _ _ ne))

    pub module_row_passes : row.first ≡ total (take m rows) → module_row_verdict rows m row ≡ Ok tt
    unfolding first_verdict
    module_row_passes e = blank_passes ∙ passes _ _ (not_from_true _ (eq-eqb _ _ e))

module _ (i : ℕ) (row : ImportRecord) where
  pub record_row_refused : targeted row.target ≡ false → record_row_verdict i row ≡ Err (row_fault FieldOutOfValues i)
  record_row_refused e = refuses _ _ (not_from_false _ e)

  pub record_row_passes : targeted row.target ≡ true → record_row_verdict i row ≡ Ok tt
  record_row_passes e = passes _ _ (not_from_true _ e)

-- the record rows before one are passed
pub records_before : (rows : List ImportRecord) (n : ℕ) → n ≤ length rows → ((k : ℕ) → k < n → targeted (get_or rows k zero_record).target ≡ true) → each record_row_verdict 0 rows ≡ each record_row_verdict n (drop n rows)
records_before rows zero h all = refl
records_before rows (suc n) h all =
    records_before rows n (omega arith) (λ k lt. all k (omega arith))
    ∙ rw add-one at (each_passes record_row_verdict rows n zero_record (omega arith) (record_row_passes n (get_or rows n zero_record) (all n (omega arith))))

-- all rows, as far as the checks before are passed
module _ (modules : List ModuleRow) (records : List ImportRecord) where
  rest : Verdict
  rest = and_then (each (module_row_verdict modules) 0 modules) (and_then (each record_row_verdict 0 records) (last_sum_verdict modules (length records)))

  module _ (few : length modules ≤ module_limit) where
    modules_pass : rows_verdict modules records ≡ and_then (refuse_if (ltb record_limit (length records)) (row_fault TooManyRecords 0)) rest
    unfolding rest
    modules_pass = first_passes _ _ (passes _ _ (le-ltb _ _ few))

    module _ (short : length records ≤ record_limit) where
      records_pass : rows_verdict modules records ≡ rest
      records_pass = modules_pass ∙ first_passes _ rest (passes _ _ (le-ltb _ _ short))

      module _ (ok : each (module_row_verdict modules) 0 modules ≡ Ok tt) where
        module _ (sound : each record_row_verdict 0 records ≡ Ok tt) where
          pub last_sum_decides : rows_verdict modules records ≡ last_sum_verdict modules (length records)
          unfolding rest
          last_sum_decides = records_pass ∙ first_passes _ _ ok ∙ first_passes _ _ sound
