-- What a look at a record says of the row that it gives. Assumes nothing.
use Rattle.std.proofs.Common.{◌≡◌, ℕ, ◌<◌, Bool, true, false, ◌&&◌, length, Some, None, Option, sym, ap, ◌∙◌, arith}
use Rattle.std.proofs.lemmas.List.Sums.{get_or-le-sum_by}
use Rattle.std.proofs.lemmas.Bool.{and_parts, and_right}
use Rattle.source.specs.declared.ImportKind.{ImportKind}
use Rattle.source.specs.declared.ImportKind.TheVariants.{Require}
use Rattle.source.specs.Meaning.{Meaning, Proper, Scanned, count_of, records_in, record_at, look_at, past_modules, record_total}
use Rattle.marks.specs.Records.{Points}
use Rattle.marks.proofs.Records.{target_looked, look_points}
use Rattle.ways.specs.Targets.{is_require}
use Rattle.ways.proofs.Requires.{require_is}
use Rattle.ways.specs.Ways.{Targets}
use Rattle.tla.specs.Rows.{target_waits, gives_row}
use Rattle.tla.proofs.Targets.{has_records}

pub record_below : (w : Meaning) (m k : ℕ) → m < count_of w → k < records_in w m → k < record_total w
record_below w m k h i = omega (arith, get_or-le-sum_by (λ (s : Scanned). length s.records) w.modules m past_modules h)

module _ (w : Meaning) (waits : ℕ → Bool) (m k : ℕ) (x : ImportKind × Option ℕ) (looked : x ≡ look_at w m k) where
  pub looked_none : x.1 ≡ None → gives_row waits (record_at w m k) ≡ false
  looked_none e = and_right (is_require (record_at w m k).kind) (target_waits waits (record_at w m k).target) (ap (target_waits waits) (sym (target_looked w m k x looked) ∙ e))

  pub looked_gives : (t : ℕ) → x.1 ≡ Some t → gives_row waits (record_at w m k) ≡ (is_require x.0 && waits t)
  looked_gives t e = sym (ap (λ (y : ImportKind × Option ℕ). is_require y.0 && target_waits waits y.1) looked) ∙ ap (λ (o : Option ℕ). is_require x.0 && target_waits waits o) e

  module _ (proper : Proper w) (i : k < records_in w m) (t : ℕ) (e : x.1 ≡ Some t) where
    looked_points : Points w m k x.0 t
    looked_points = look_points w m k x looked t (has_records w proper m k i) e

    pub looked_below : Targets w → t < count_of w
    looked_below targets = targets m t (k, x.0, looked_points)

    pub looked_waits : (is_require x.0 && waits t) ≡ true → Points w m k Require t × (waits t ≡ true)
    looked_waits y =
        let parts = and_parts (is_require x.0) (waits t) y in
        let p = looked_points in
        (record { importer = p.importer; by = p.by ∙ require_is x.0 parts.0; to = p.to }, parts.1)
