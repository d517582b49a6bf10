-- A place ends with a rank in its set exactly where some start that holds the rank leads to it.
use Rattle.std.proofs.Common.{◌≡◌, ℕ, ◌/◌, ◌%◌, ◌^◌, ◌<◌, max, true, false, ltb, ◌⊎◌, List, length, get_or, ap, ◌∙◌, subst, inl, inr, arith}
use native.Mathlib.Nat.{zero-div}
use lib.Bits.{bit_or, or_shr, or_step}
use Rattle.std.proofs.lemmas.Bool.{cases_eq, cases_Bool, cond-true, cond-false, lt-ltb}
use Rattle.spread.specs.declared.arrow.Arrow.{Arrow}
use Rattle.spread.specs.declared.entry_set.EntrySet.{EntrySet}
use Rattle.spread.specs.Kinds.{no_entry, union, single_entry, Holds}
use Rattle.spread.specs.Leads.{Leads}
use Rattle.spread.proofs.Ranks.{power_digit, power_own}
use Rattle.spread.specs.Spread.{Spread, Made, nothing, one, both}

low_or : (x y : ℕ) → bit_or x y % 2 ≡ max (x % 2) (y % 2)
low_or x y = omega (arith, or_step x y)

bit_at_or : (r a b : ℕ) → bit_or a b / 2 ^ r % 2 ≡ max (a / 2 ^ r % 2) (b / 2 ^ r % 2)
bit_at_or r a b = ap (λ (x : ℕ). x % 2) (or_shr a b r) ∙ low_or (a / 2 ^ r) (b / 2 ^ r)

pub union_holds : (r : ℕ) (x y : EntrySet) → Holds (union x y) r → Holds x r ⊎ Holds y r
union_holds r x y e = elim (cases_eq (x.0 / 2 ^ r % 2) 1) [ inl h ↦ inl h | inr n ↦ inr (omega (arith, bit_at_or r x.0 y.0)) ]

pub holds_union : (r : ℕ) (x y : EntrySet) → Holds y r → Holds (union x y) r
holds_union r x y e = omega (arith, bit_at_or r x.0 y.0)

pub none_holds : (r : ℕ) → Holds no_entry r → ⊥
none_holds r e = omega (arith, zero-div (2 ^ r))

-- the set of one rank has that rank and no other
pub single_holds : (k : ℕ) → k < 64 → Holds (single_entry k) k
single_holds k h = rw (cond-true (ltb k 64) (2 ^ k) 0 (lt-ltb k 64 h)) (power_own k)

pub holds_single : (k r : ℕ) → Holds (single_entry k) r → r ≡ k
holds_single k r e = go (cases_Bool (ltb k 64))
  where
    go : (ltb k 64 ≡ true) ⊎ (ltb k 64 ≡ false) → r ≡ k
    go (inl t) = power_digit k r (rw (cond-true (ltb k 64) (2 ^ k) 0 t) at e)
    go (inr f) = absurd (none_holds r (rw (cond-false (ltb k 64) (2 ^ k) 0 f) at e))

from_entry : (r : ℕ) {arrows : List Arrow} {start : List EntrySet} {p : ℕ} {v : EntrySet} → Made no_entry union arrows start p v → Holds v r → (q : ℕ) × Leads arrows q p × Holds (get_or start q no_entry) r
from_entry r nothing e = absurd (none_holds r e)
from_entry r (one {q} l) e = (q, l, e)
from_entry r (both {x} {y} a b) e = elim (union_holds r x y e) [ inl f ↦ from_entry r a f | inr f ↦ from_entry r b f ]

pub entry_from : (r : ℕ) (arrows : List Arrow) (start end : List EntrySet) → Spread no_entry union arrows start end → (p : ℕ) → p < length start → Holds (get_or end p no_entry) r → (q : ℕ) × Leads arrows q p × Holds (get_or start q no_entry) r
entry_from r arrows start end s p h e = from_entry r (s.made p h) e

pub entry_to : (r : ℕ) (arrows : List Arrow) (start end : List EntrySet) → Spread no_entry union arrows start end → (q p : ℕ) → p < length start → Leads arrows q p → Holds (get_or start q no_entry) r → Holds (get_or end p no_entry) r
entry_to r arrows start end s q p h l e = subst (λ (x : EntrySet). Holds x r) (s.upper q p h l) (holds_union r (get_or end p no_entry) (get_or start q no_entry) e)
