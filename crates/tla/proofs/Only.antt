-- A search that begins with no module entered has one answer. Assumes nothing.
use Rattle.std.proofs.Common.{◌≡◌, ℕ, ◌<◌, ◌≤◌, List, length, Option, sym, refl, ◌∙◌, inl, inr, arith}
use Rattle.std.proofs.lemmas.Bool.{both_ways, cases_eq}
use Rattle.std.specs.List.{AllByRecursion}
use Rattle.source.specs.Meaning.{Meaning, Proper, count_of}
use Rattle.marks.proofs.Records.{none_some}
use Rattle.spread.specs.declared.yes_no.YesNo.{YesNo}
use Rattle.ways.specs.Targets.{flag}
use Rattle.ways.specs.Ways.{Targets}
use Rattle.tla.specs.Search.{enter, Searches, ends, passes, stops, finds, goes_on, SourceOf}
use Rattle.tla.proofs.Searched.{enter_long, enter_same, enter_other}
use Rattle.tla.proofs.Targets.{imports_inside}

-- flags with a place for each module, and the same modules entered
record Alike (w : Meaning) (e f : List YesNo) : Type 0 where
  long_e : count_of w ≤ length e
  long_f : count_of w ≤ length f
  same : (x : ℕ) → x < count_of w → flag e x ≡ flag f x

module _ (w : Meaning) where
  entered_alike : (e f : List YesNo) (t : ℕ) → t < count_of w → Alike w e f → Alike w (enter e t) (enter f t)
  entered_alike e f t h a = record {
    long_e = omega (arith, a.long_e, enter_long e t);
    long_f = omega (arith, a.long_f, enter_long f t);
    same = λ x lt. elim (cases_eq x t) [
      | inl q ↦ let in_e : t < length e = omega (arith, a.long_e) in let in_f : t < length f = omega (arith, a.long_f) in rw q (enter_same e t in_e ∙ sym (enter_same f t in_f))
      | inr ne ↦ enter_other e t x ne ∙ a.same x lt ∙ sym (enter_other f t x ne)
    ];
  }

  module _ (proper : Proper w) (targets : Targets w) where
    one_answer : {e f e-last f-last : List YesNo} {ts : List ℕ} {r q : Option ℕ} → Alike w e f → AllByRecursion (λ t. t < count_of w) ts → Searches w e ts r e-last → Searches w f ts q f-last → (r ≡ q) × Alike w e-last f-last
    one_answer a i ends ends = (refl, a)
    one_answer a i (passes h d) (passes k b) = one_answer a i.1 d b
    one_answer a i (passes {t} h d) (stops k b) = absurd (both_ways _ (a.same t i.0 ∙ k) h)
    one_answer a i (passes {t} h d) (finds k n b) = absurd (both_ways _ (a.same t i.0 ∙ k) h)
    one_answer a i (passes {t} h d) (goes_on k n b o) = absurd (both_ways _ (a.same t i.0 ∙ k) h)
    one_answer a i (stops {t} h y) (passes k b) = absurd (both_ways _ h (a.same t i.0 ∙ k))
    one_answer a i (stops {e} {t} h y) (stops {e = f} k z) = (refl, entered_alike e f t i.0 a)
    one_answer a i (stops h y) (finds k n b) = absurd (both_ways _ n y)
    one_answer a i (stops h y) (goes_on k n b o) = absurd (both_ways _ n y)
    one_answer a i (finds {t} h n d) (passes k b) = absurd (both_ways _ h (a.same t i.0 ∙ k))
    one_answer a i (finds h n d) (stops k y) = absurd (both_ways _ n y)
    one_answer a i (finds {e} {t} h n d) (finds {e = f} k m b) = one_answer (entered_alike e f t i.0 a) (imports_inside w proper targets t) d b
    one_answer a i (finds {e} {t} {s} h n d) (goes_on {e = f} k m b o) = absurd (none_some s (sym (one_answer (entered_alike e f t i.0 a) (imports_inside w proper targets t) d b).0))
    one_answer a i (goes_on {t} h n d after) (passes k b) = absurd (both_ways _ h (a.same t i.0 ∙ k))
    one_answer a i (goes_on h n d after) (stops k y) = absurd (both_ways _ n y)
    one_answer a i (goes_on {e} {t} h n d after) (finds {e = f} {s} k m b) = absurd (none_some s (one_answer (entered_alike e f t i.0 a) (imports_inside w proper targets t) d b).0)
    one_answer a i (goes_on {e} {t} h n d after) (goes_on {e = f} k m b o) = one_answer (one_answer (entered_alike e f t i.0 a) (imports_inside w proper targets t) d b).1 i.1 after o

    pub only_one : (m : ℕ) → m < count_of w → (r q : Option ℕ) → SourceOf w m r → SourceOf w m q → r ≡ q
    only_one m h r q x y = (one_answer (record { long_e = x.long; long_f = y.long; same = λ t lt. x.clear t lt ∙ sym (y.clear t lt) }) (h, tt) x.searches y.searches).0
