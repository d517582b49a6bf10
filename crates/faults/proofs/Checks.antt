-- Checks in their order: one step of a loop over a list, and what an accepted check tells. Assumes nothing.
use Rattle.std.proofs.Common.{◌≡◌, ℕ, zero, suc, ◌+◌, ◌<◌, ◌≤◌, Bool, true, false, List, [], ◌∷◌, length, get_or, drop, is_ok, Ok, Err, refl, ap, ◌∙◌, arith}
use mathlib.Core.Bool.{false≢true}
use Rattle.std.proofs.lemmas.List.{at_drop_more, at_drop_all}
use Rattle.faults.specs.declared.Fault.{Fault}
use Rattle.faults.specs.Faults.{Verdict, refuse_if, and_then, each}

pub refuses : (b : Bool) (f : Fault) → b ≡ true → refuse_if b f ≡ Err f
refuses b f e = ap (λ (t : Bool). refuse_if t f) e

pub passes : (b : Bool) (f : Fault) → b ≡ false → refuse_if b f ≡ Ok tt
passes b f e = ap (λ (t : Bool). refuse_if t f) e

-- the first check decides, or the second does
pub first_refuses : (a b : Verdict) (f : Fault) → a ≡ Err f → and_then a b ≡ Err f
first_refuses a b f e = ap (λ (v : Verdict). and_then v b) e

pub first_passes : (a b : Verdict) → a ≡ Ok tt → and_then a b ≡ b
first_passes a b e = ap (λ (v : Verdict). and_then v b) e

-- what an accepted check tells
pub accepted_if : (b : Bool) (f : Fault) → is_ok (refuse_if b f) ≡ true → b ≡ false
accepted_if true f e = absurd (false≢true e)
accepted_if false f e = refl

pub accepted_first : (a b : Verdict) → is_ok (and_then a b) ≡ true → is_ok a ≡ true
accepted_first (Ok u) b e = refl
accepted_first (Err f) b e = absurd (false≢true e)

pub accepted_second : (a b : Verdict) → is_ok (and_then a b) ≡ true → is_ok b ≡ true
accepted_second (Ok u) b e = e
accepted_second (Err f) b e = absurd (false≢true e)

pub accepted : (a : Verdict) → a ≡ Ok tt → is_ok a ≡ true
accepted a e = ap (λ (v : Verdict). is_ok v) e

module _ {A : Type 0} (check : ℕ → A → Verdict) where
  pub accepted_each : (i : ℕ) (xs : List A) → is_ok (each check i xs) ≡ true → (k : ℕ) (d : A) → k < length xs → is_ok (check (i + k) (get_or xs k d)) ≡ true
  accepted_each i [] ok k d h = absurd (omega arith)
  accepted_each i (x ∷ xs) ok zero d h =
      let e : i + 0 ≡ i = omega arith in
      ap (λ (j : ℕ). is_ok (check j x)) e ∙ accepted_first (check i x) (each check (i + 1) xs) ok
  accepted_each i (x ∷ xs) ok (suc k) d h =
      let e : i + suc k ≡ i + 1 + k = omega arith in
      ap (λ (j : ℕ). is_ok (check j (get_or xs k d))) e
      ∙ accepted_each (i + 1) xs (accepted_second (check i x) (each check (i + 1) xs) ok) k d (omega arith)

  -- a loop over xs, whose invariant is: the check of what is left decides
  module _ (xs : List A) (i : ℕ) (d : A) (h : i < length xs) where
    pub each_step : each check i (drop i xs) ≡ and_then (check i (get_or xs i d)) (each check (i + 1) (drop (i + 1) xs))
    each_step = at_drop_more (each check i) xs i d h

    pub each_passes : check i (get_or xs i d) ≡ Ok tt → each check i (drop i xs) ≡ each check (i + 1) (drop (i + 1) xs)
    each_passes e = each_step ∙ first_passes (check i (get_or xs i d)) (each check (i + 1) (drop (i + 1) xs)) e

    pub each_refuses : (f : Fault) → check i (get_or xs i d) ≡ Err f → each check i (drop i xs) ≡ Err f
    each_refuses f e = each_step ∙ first_refuses (check i (get_or xs i d)) (each check (i + 1) (drop (i + 1) xs)) f e

  pub each_done : (xs : List A) (i : ℕ) → length xs ≤ i → each check i (drop i xs) ≡ Ok tt
  each_done xs i h = at_drop_all (each check i) xs i h
