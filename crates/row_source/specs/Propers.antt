-- Nothing to believe here, only proofs, which the source's clauses cite: accepted rows have a proper meaning, and each
-- module's records lie within the record rows.
use Rattle.std.specs.Prelude.{◌≡◌, ℕ, ◌+◌, ◌-◌, ◌^◌, ◌<◌, ◌≤◌, true, false, not, List, [], map, length, get_or, take, drop, is_ok, Some, None, Option, ◌≢◌, nat_lt, slice_index_or}
use Rattle.std.proofs.Common.{sym, ap, ◌∙◌, inl, inr, arith}
use Rattle.std.proofs.lemmas.List.{get_or_past, get_or-map, length-map, length-take, length-drop, get_or-take, get_or-drop, get_or_default}
use Rattle.std.proofs.lemmas.List.Sums.{sum_by_more, sum_by-take-le}
use Rattle.std.proofs.lemmas.Bool.{not-false, eqb-true, ltb-true, cases_lt}
use Rattle.faults.specs.declared.Refusal.TheVariants.{TooManyModules, TooManyRecords, FieldOutOfValues, WrongFirstRecord}
use Rattle.faults.specs.Faults.{refuse_if, and_then, each}
use Rattle.faults.proofs.Checks.{accepted_if, accepted_first, accepted_second, accepted_each}
use Rattle.source.specs.declared.ImportRecord.{ImportRecord}
use Rattle.source.specs.declared.ImportKind.TheVariants.{Import}
use Rattle.source.specs.declared.Module.{Module}
use Rattle.source.specs.declared.Module.TheVariants.{External, Normal}
use Rattle.source.specs.Meaning.{Scanned, Proper, past_modules, past_records, scanned_at, records_of, record_at, module_at}
use Rattle.source.specs.Numbers.{module_limit, record_limit}
use Rattle.row_source.specs.declared.rows.ModuleRow.{ModuleRow}
use Rattle.row_source.specs.Checks.{total, blank, targeted, row_fault, module_row_verdict, record_row_verdict, last_sum_verdict, rows_verdict}
use Rattle.row_source.specs.Rows.{row_scanned, rows_meaning}

-- what a read of a slice takes as the default
abbrev pub zero_row : ModuleRow
zero_row = record { described = External; first = 0; count = 0 }

abbrev pub zero_record : ImportRecord
zero_record = record { kind = Import; target = None; star = false; span = record { start = 0; end = 0 } }

blank_count : (d : Module) (n : ℕ) → blank d n ≡ true → d ≡ External → n ≡ 0
blank_count External n e x = eqb-true n 0 e
blank_count (Normal d) n e x = let z : ◌≡◌ {A = ℕ} 0 1 = cc in absurd (omega arith)

targeted_below : (o : Option ℕ) (t : ℕ) → targeted o ≡ true → o ≡ Some t → t < 2 ^ 32 - 1
targeted_below (Some s) t e x = let same : s ≡ t = cc in omega (arith, ltb-true s (2 ^ 32 - 1) e)
targeted_below None t e x = let z : ◌≡◌ {A = ℕ} 0 1 = cc in absurd (omega arith)

-- the rows of one module
module _ (modules : List ModuleRow) (records : List ImportRecord) where
  pub scanned_past : (runtime m : ℕ) → length modules ≤ m → scanned_at (rows_meaning runtime modules records) m ≡ past_modules
  scanned_past runtime m h = get_or_past (map (row_scanned records) modules) m past_modules (rw length-map h)

  pub scanned_in : (runtime m : ℕ) → m < length modules → scanned_at (rows_meaning runtime modules records) m ≡ row_scanned records (slice_index_or modules m zero_row)
  scanned_in runtime m h = get_or-map (row_scanned records) modules m zero_row past_modules h

module _ (modules : List ModuleRow) (records : List ImportRecord) (ok : is_ok (rows_verdict modules records) ≡ true) where
  after_limits : is_ok (and_then (each (module_row_verdict modules) 0 modules) (and_then (each record_row_verdict 0 records) (last_sum_verdict modules (length records)))) ≡ true
  after_limits = accepted_second (refuse_if (nat_lt record_limit (length records)) (row_fault TooManyRecords 0)) _ (accepted_second (refuse_if (nat_lt module_limit (length modules)) (row_fault TooManyModules 0)) _ ok)

  after_modules : is_ok (and_then (each record_row_verdict 0 records) (last_sum_verdict modules (length records))) ≡ true
  after_modules = accepted_second (each (module_row_verdict modules) 0 modules) _ after_limits

  counts_all : total modules ≡ length records
  counts_all = eqb-true _ _ (not-false _ (accepted_if _ (row_fault WrongFirstRecord (length modules)) (accepted_second (each record_row_verdict 0 records) (last_sum_verdict modules (length records)) after_modules)))

  module _ (m : ℕ) (h : m < length modules) where
    row_ok : is_ok (module_row_verdict modules (0 + m) (slice_index_or modules m zero_row)) ≡ true
    row_ok = accepted_each (module_row_verdict modules) 0 modules (accepted_first (each (module_row_verdict modules) 0 modules) _ after_limits) m zero_row h

    is_blank : blank (get_or modules m zero_row).described (get_or modules m zero_row).count ≡ true
    is_blank = not-false _ (accepted_if _ (row_fault FieldOutOfValues (0 + m)) (accepted_first (refuse_if (not (blank (get_or modules m zero_row).described (get_or modules m zero_row).count)) (row_fault FieldOutOfValues (0 + m))) _ row_ok))

    begins : (get_or modules m zero_row).first ≡ total (take (0 + m) modules)
    begins = eqb-true _ _ (not-false _ (accepted_if _ (row_fault WrongFirstRecord (0 + m)) (accepted_second (refuse_if (not (blank (get_or modules m zero_row).described (get_or modules m zero_row).count)) (row_fault FieldOutOfValues (0 + m))) _ row_ok)))

    pub row_within : (get_or modules m zero_row).first + (get_or modules m zero_row).count ≤ length records
    row_within =
        let e : 0 + m ≡ m = omega arith in
        let start = begins ∙ ap (λ (j : ℕ). total (take j modules)) e in
        let sum = sum_by_more (λ (row : ModuleRow). row.count) modules m zero_row h in
        let below = sum_by-take-le (λ (row : ModuleRow). row.count) modules (m + 1) in
        omega (arith, start, sum, below, counts_all)

    pub external_none : (get_or modules m zero_row).described ≡ External → (get_or modules m zero_row).count ≡ 0
    external_none e = blank_count (get_or modules m zero_row).described (get_or modules m zero_row).count is_blank e

  pub record_targeted : (i t : ℕ) → i < length records → (get_or records i zero_record).target ≡ Some t → t < 2 ^ 32 - 1
  record_targeted i t h e =
      targeted_below (get_or records i zero_record).target t
      (not-false _ (accepted_if _ (row_fault FieldOutOfValues (0 + i)) (accepted_each record_row_verdict 0 records (accepted_first (each record_row_verdict 0 records) _ after_modules) i zero_record h)))
      e

-- the records of one row that lies within the record rows
module _ (records : List ImportRecord) (row : ModuleRow) (h : row.first + row.count ≤ length records) where
  pub row_count : length (row_scanned records row).records ≡ row.count
  row_count = simp (length-take, length-drop) (omega arith)

  pub row_record_past : (k : ℕ) → row.count ≤ k → slice_index_or (row_scanned records row).records k past_records ≡ past_records
  row_record_past k le = get_or_past (row_scanned records row).records k past_records (omega (arith, row_count))

  pub row_record_in : (k : ℕ) → k < row.count → (d : ImportRecord) → slice_index_or (row_scanned records row).records k d ≡ slice_index_or records (row.first + k) d
  row_record_in k lt d = get_or-take row.count (drop row.first records) k d lt ∙ get_or-drop row.first records k d

module _ (modules : List ModuleRow) (records : List ImportRecord) (ok : is_ok (rows_verdict modules records) ≡ true) (runtime m : ℕ) (h : m < length modules) where
  pub record_past : (k : ℕ) → (get_or modules m zero_row).count ≤ k → record_at (rows_meaning runtime modules records) m k ≡ past_records
  record_past k le =
      ap (λ (s : Scanned). get_or s.records k past_records) (scanned_in modules records runtime m h)
      ∙ row_record_past records (slice_index_or modules m zero_row) (row_within modules records ok m h) k le

  pub record_in : (k : ℕ) → k < (get_or modules m zero_row).count → record_at (rows_meaning runtime modules records) m k ≡ slice_index_or records ((get_or modules m zero_row).first + k) past_records
  record_in k lt =
      ap (λ (s : Scanned). get_or s.records k past_records) (scanned_in modules records runtime m h)
      ∙ row_record_in records (slice_index_or modules m zero_row) (row_within modules records ok m h) k lt past_records

none_some : (t : ℕ) → None ≢ Some t
none_some t e = let z : ◌≡◌ {A = ℕ} 0 1 = cc in omega arith

pub rows_proper : (runtime : ℕ) (modules : List ModuleRow) (records : List ImportRecord) → is_ok (rows_verdict modules records) ≡ true → Proper (rows_meaning runtime modules records)
rows_proper runtime modules records ok = record { blank = blanks; targets = bounded }
  where
    blanks : (m : ℕ) → module_at (rows_meaning runtime modules records) m ≡ External → records_of (rows_meaning runtime modules records) m ≡ []
    blanks m e = elim (cases_lt m (length modules)) [
      | inl h ↦ (let here = scanned_in modules records runtime m h in
          ap (λ (s : Scanned). s.records) here
          ∙ ap (λ (n : ℕ). take n (drop (get_or modules m zero_row).first records)) (external_none modules records ok m h (sym (ap (λ (s : Scanned). s.described) here) ∙ e)))
      | inr h ↦ ap (λ (s : Scanned). s.records) (scanned_past modules records runtime m h)
    ]

    bounded : (m k t : ℕ) → (record_at (rows_meaning runtime modules records) m k).target ≡ Some t → t < 2 ^ 32 - 1
    bounded m k t e = elim (cases_lt m (length modules)) [
      | inl h ↦ elim (cases_lt k (get_or modules m zero_row).count) [
        | inl lt ↦ (let within = row_within modules records ok m h in
            let i = (get_or modules m zero_row).first + k in
            let short : i < length records = omega arith in
            record_targeted modules records ok i t short
            (ap (λ (r : ImportRecord). r.target) (get_or_default records i zero_record past_records short ∙ sym (record_in modules records ok runtime m h k lt)) ∙ e))
        | inr le ↦ absurd (none_some t (sym (ap (λ (r : ImportRecord). r.target) (record_past modules records ok runtime m h k le)) ∙ e))
      ]
      | inr h ↦ absurd (none_some t (sym (ap (λ (s : Scanned). (get_or s.records k past_records).target) (scanned_past modules records runtime m h)) ∙ e))
    ]
