-- Each row is that of some record. Assumes nothing.
use Rattle.std.proofs.Common.{◌≡◌, ℕ, zero, suc, ◌<◌, ◌≤◌, Bool, true, List, length, Some, None, Option, refl, ap, ◌∙◌, subst, inl, inr, add-one, arith}
use Rattle.std.proofs.lemmas.Bool.{and_parts, cases_Bool, cases_lt, false≢true}
use Rattle.source.specs.declared.ImportKind.TheVariants.{Require}
use Rattle.marks.specs.declared.rows.AwaitRow.{AwaitRow}
use Rattle.marks.proofs.Records.{normal_below}
use Rattle.ways.specs.Ways.{Targets}
use Rattle.source.specs.Meaning.{Meaning, Proper, count_of, records_in, record_at}
use Rattle.ways.specs.Targets.{is_require}
use Rattle.ways.proofs.Requires.{require_is}
use Rattle.tla.specs.Rows.{target_waits, gives_row, rows_before, row_place, row_total, Waiting, RowAt, RowsWritten, AwaitRows}
use Rattle.tla.proofs.Places.{before_all, place_none, place_all, place_yes, place_no}
use Rattle.tla.proofs.Targets.{has_records}

target_is : (waits : ℕ → Bool) (target : Option ℕ) → target_waits waits target ≡ true → (t : ℕ) × (target ≡ Some t) × (waits t ≡ true)
target_is waits None e = absurd (false≢true e)
target_is waits (Some t) e = (t, refl, e)

module _ (w : Meaning) (waits : ℕ → Bool) (proper : Proper w) where
  given : (m k : ℕ) → k < records_in w m → gives_row waits (record_at w m k) ≡ true → RowAt w waits (row_place w waits m k)
  given m k i e =
      let parts = and_parts (is_require (record_at w m k).kind) (target_waits waits (record_at w m k).target) e in
      let t = target_is waits (record_at w m k).target parts.1 in
      record {
        importer = m;
        place = k;
        target = t.0;
        points = record { importer = has_records w proper m k i; by = require_is (record_at w m k).kind parts.0; to = t.1 };
        waiting = t.2;
        here = refl;
      }

  -- the rows of the first k records of module m, and those of the modules below m
  in_module : (m k i : ℕ) → m < count_of w → k ≤ records_in w m → rows_before w waits m ≤ i → i < row_place w waits m k → RowAt w waits i
  in_module m zero i h le lo hi = absurd (omega (arith, place_none w waits m))
  in_module m (suc k) i h le lo hi = elim (cases_lt i (row_place w waits m k)) [
    | inl lt ↦ in_module m k i h (omega arith) lo lt
    | inr ge ↦ elim (cases_Bool (gives_row waits (record_at w m k))) [
      | inl one ↦
          let more = place_yes w waits m h k (omega arith) one in
          let next = ap (row_place w waits m) (add-one k) in
          let at : row_place w waits m k ≡ i = omega (arith, more, next) in
          subst (RowAt w waits) at (given m k (omega arith) one)
      | inr none ↦
          let same = place_no w waits m h k (omega arith) none in
          let next = ap (row_place w waits m) (add-one k) in
          absurd (omega (arith, same, next))
    ]
  ]

  below : (m i : ℕ) → m ≤ count_of w → i < rows_before w waits m → RowAt w waits i
  below zero i le hi = absurd (omega arith)
  below (suc m) i le hi = elim (cases_lt i (rows_before w waits m)) [
    | inl lt ↦ below m i (omega arith) lt
    | inr ge ↦
        let all = place_all w waits m (omega arith) (records_in w m) (omega arith) in
        let next = ap (rows_before w waits) (add-one m) in
        in_module m (records_in w m) i (omega arith) (omega arith) ge (omega (arith, all, next))
  ]

  pub row_at_place : (i : ℕ) → i < row_total w waits → RowAt w waits i
  row_at_place i h = below (count_of w) i (omega arith) (omega (arith, before_all w waits (count_of w) refl))

-- the rows of all modules, written in their places, are all rows
pub all_rows : (w : Meaning) (waits : ℕ → Bool) (old new : List AwaitRow) (n : ℕ) → Proper w → Targets w → Waiting w waits → length new ≡ length old → RowsWritten w waits (count_of w) old new n → AwaitRows w old new n
all_rows w waits old new n proper targets when long written = record {
  waits = waits;
  when = when;
  count = written.count ∙ before_all w waits (count_of w) refl;
  all = λ i lt. row_at_place w waits proper i (omega (arith, written.count, before_all w waits (count_of w) refl));
  long = long;
  each = λ m k t p a. written.each m k t (normal_below w m p.importer) p ((when t (targets m t (k, Require, p))).1 a);
  rest = written.rest;
}
