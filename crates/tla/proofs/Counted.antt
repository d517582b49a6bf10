-- Two tests that are yes of the same modules count the same rows. Assumes nothing.
use Rattle.std.proofs.Common.{◌≡◌, ℕ, zero, suc, ◌<◌, ◌≤◌, Bool, true, false, ◌&&◌, ◌↔◌, Some, None, Option, sym, refl, ap, ◌∙◌, inl, inr, add-one, arith}
use Rattle.std.proofs.lemmas.Bool.{cases_Bool, false≢true}
use Rattle.source.specs.Meaning.{Meaning, Proper, count_of, records_in, record_at}
use Rattle.ways.specs.Targets.{is_require}
use Rattle.ways.specs.Ways.{Targets}
use Rattle.tla.specs.Rows.{target_waits, gives_row, rows_before, row_place, row_total, Waiting}
use Rattle.tla.proofs.Places.{before_all, place_none, place_all, place_yes, place_no}
use Rattle.tla.proofs.Targets.{has_records}

pub same_test : {P : Type 0} (x y : Bool) → (x ≡ true) ↔ P → (y ≡ true) ↔ P → x ≡ y
same_test true true f g = refl
same_test true false f g = absurd (false≢true (g.1 (f.0 refl)))
same_test false true f g = absurd (false≢true (f.1 (g.0 refl)))
same_test false false f g = refl

module _ (w : Meaning) (proper : Proper w) (targets : Targets w) (a b : ℕ → Bool) (wa : Waiting w a) (wb : Waiting w b) where
  same_target : (kind : Bool) (target : Option ℕ) → ((t : ℕ) → target ≡ Some t → t < count_of w) → (kind && target_waits a target) ≡ (kind && target_waits b target)
  same_target kind None inside = refl
  same_target kind (Some t) inside = ap (λ (y : Bool). kind && y) (same_test (a t) (b t) (wa t (inside t refl)) (wb t (inside t refl)))

  same_gives : (m k : ℕ) → k < records_in w m → gives_row a (record_at w m k) ≡ gives_row b (record_at w m k)
  same_gives m k i =
      same_target (is_require (record_at w m k).kind) (record_at w m k).target
      (λ t e. targets m t (k, (record_at w m k).kind, record { importer = has_records w proper m k i; by = refl; to = e }))

  pub same_place : (m k : ℕ) → m < count_of w → k ≤ records_in w m → rows_before w a m ≡ rows_before w b m → row_place w a m k ≡ row_place w b m k
  same_place m zero h le e = place_none w a m ∙ e ∙ sym (place_none w b m)
  same_place m (suc k) h le e =
      let i : k < records_in w m = omega arith in
      let before = same_place m k h (omega arith) e in
      let next-a = ap (row_place w a m) (add-one k) in
      let next-b = ap (row_place w b m) (add-one k) in
      elim (cases_Bool (gives_row a (record_at w m k))) [
        | inl one ↦ let more-a = place_yes w a m h k i one in let more-b = place_yes w b m h k i (sym (same_gives m k i) ∙ one) in omega (arith, before, next-a, next-b, more-a, more-b)
        | inr none ↦ let more-a = place_no w a m h k i none in let more-b = place_no w b m h k i (sym (same_gives m k i) ∙ none) in omega (arith, before, next-a, next-b, more-a, more-b)
      ]

  pub same_before : (m : ℕ) → m ≤ count_of w → rows_before w a m ≡ rows_before w b m
  same_before zero le = refl
  same_before (suc m) le =
      let h : m < count_of w = omega arith in
      let all = same_place m (records_in w m) h (omega arith) (same_before m (omega arith)) in
      let all-a = place_all w a m h (records_in w m) (omega arith) in
      let all-b = place_all w b m h (records_in w m) (omega arith) in
      let next-a = ap (rows_before w a) (add-one m) in
      let next-b = ap (rows_before w b) (add-one m) in
      omega (arith, all, all-a, all-b, next-a, next-b)

  pub total_one : row_total w a ≡ row_total w b
  total_one = sym (before_all w a (count_of w) refl) ∙ same_before (count_of w) (omega arith) ∙ before_all w b (count_of w) refl
