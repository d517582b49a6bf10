-- Ones counted and trailing zeros, in terms of the ranks in a set.
use Rattle.std.proofs.Common.{◌≡◌, ℕ, zero, suc, ◌+◌, ◌-◌, ◌*◌, ◌/◌, ◌%◌, ◌^◌, ◌<◌, ◌≤◌, Bool, true, false, cond, eqb, sym, refl, ap, ◌∙◌, subst, ap₂, inl, inr, lt_of_lt_of_le, div-one, one-add, arith, pow_mono}
use native.Mathlib.Nat.{div_self, div-eq_of_lt, pow-succ'}
use lib.Count.{ones, ones_step, ones-le, count_trailing_zeros, under}
use Rattle.std.proofs.lemmas.Nat.{shr-shr, shr_below, shl-shr, pow-add, pow_pos, pow_below}
use Rattle.std.proofs.lemmas.Bool.{cases_eq, cases_order, eq-eqb, ne_eqb, cond-true, cond-false}
use Rattle.spread.specs.declared.entry_set.EntrySet.{EntrySet}
use Rattle.spread.specs.Kinds.{count, entry_count}

abbrev bit : ℕ → ℕ → Bool
bit n r = eqb (n / 2 ^ r % 2) 1

halved : (n r : ℕ) → n / 2 / 2 ^ r ≡ n / 2 ^ suc r
halved n r = shr-shr n 1 r ∙ ap (λ (k : ℕ). n / 2 ^ k) (one-add r)

half_below : (n k : ℕ) → n < 2 ^ suc k → n / 2 < 2 ^ k
half_below n k h = shr_below n k 1 (subst (λ (x : ℕ). n < 2 ^ x) (sym (omega arith)) h)

count_same : (f g : ℕ → Bool) (n : ℕ) → ((r : ℕ) → f r ≡ g r) → count f n ≡ count g n
count_same f g zero e = refl
count_same f g (suc n) e = ap₂ (λ (b : Bool) (m : ℕ). cond b (suc m) m) (e n) (count_same f g n e)

cond_suc : (b : Bool) (m k : ℕ) → cond b (suc (m + k)) (m + k) ≡ m + cond b (suc k) k
cond_suc true m k = omega arith
cond_suc false m k = refl

-- the first number counted apart
count_first : (f : ℕ → Bool) (n : ℕ) → count f (suc n) ≡ cond (f 0) 1 0 + count (λ r. f (suc r)) n
count_first f zero = omega arith
count_first f (suc n) = ap (λ (m : ℕ). cond (f (suc n)) (suc m) m) (count_first f n) ∙ cond_suc (f (suc n)) (cond (f 0) 1 0) (count (λ r. f (suc r)) n)

lowest : (n : ℕ) → cond (bit n 0) 1 0 ≡ n % 2
lowest n =
    elim (cases_eq (n / 1 % 2) 1) [
      | inl e ↦ cond-true (bit n 0) 1 0 (eq-eqb (n / 1 % 2) 1 e) ∙ omega (arith, div-one n)
      | inr ne ↦ cond-false (bit n 0) 1 0 (ne_eqb (n / 1 % 2) 1 ne) ∙ omega (arith, div-one n)
    ]

ones_count : (k n : ℕ) → n < 2 ^ k → ones n ≡ count (bit n) k
ones_count zero n h = omega (arith, ones-le 0 n h)
ones_count (suc k) n h =
    ones_step n
    ∙ ap₂ (λ (x y : ℕ). x + y) (sym (lowest n)) (ones_count k (n / 2) (half_below n k h) ∙ count_same (bit (n / 2)) (λ r. bit n (suc r)) k (λ r. ap (λ (x : ℕ). eqb (x % 2) 1) (halved n r)))
    ∙ sym (count_first (bit n) k)

pub ones_entries : (e : EntrySet) → e.0 < 2 ^ 64 → ones e.0 ≡ entry_count e
unfolding entry_count
ones_entries e h = ones_count 64 e.0 h

-- the lowest digit decides: none below it where it is set, and else one more than the rest has
trailing_digit : (k n d : ℕ) → n % 2 ≡ d → count_trailing_zeros (suc k) n ≡ under d (count_trailing_zeros k (n / 2))
unfolding count_trailing_zeros
trailing_digit k n d e = ap (λ (x : ℕ). under x (count_trailing_zeros k (n / 2))) e

-- t is the place of the lowest digit that is set
abbrev Lowest : ℕ → ℕ → Type 0
Lowest n t = (n / 2 ^ t % 2 ≡ 1) × ((r : ℕ) → r < t → n / 2 ^ r % 2 ≡ 1 → ⊥)

lowest_zero : (n : ℕ) → n % 2 ≡ 1 → Lowest n 0
lowest_zero n e = (omega (arith, div-one n), λ r h f. omega arith)

lowest_suc : (n t : ℕ) → n % 2 ≡ 0 → Lowest (n / 2) t → Lowest n (suc t)
lowest_suc n t e l = (subst (λ (x : ℕ). x % 2 ≡ 1) (halved n t) l.0, below)
  where
    below : (r : ℕ) → r < suc t → n / 2 ^ r % 2 ≡ 1 → ⊥
    below zero h f = omega (arith, div-one n)
    below (suc r) h f = l.1 r (omega arith) (subst (λ (x : ℕ). x % 2 ≡ 1) (sym (halved n r)) f)

pub trailing_lowest : (k n : ℕ) → n < 2 ^ k → 0 < n → Lowest n (count_trailing_zeros k n)
trailing_lowest zero n h p = absurd (omega arith)
trailing_lowest (suc k) n h p =
    elim (cases_eq (n % 2) 1) [
      | inl e ↦ subst (Lowest n) (sym (trailing_digit k n 1 e)) (lowest_zero n e)
      | inr ne ↦ (let e : n % 2 ≡ 0 = omega arith in subst (Lowest n) (sym (trailing_digit k n 0 e)) (lowest_suc n (count_trailing_zeros k (n / 2)) e (trailing_lowest k (n / 2) (half_below n k h) (omega arith))))
    ]

-- no digit past the last is set
pub none_past : (k n r : ℕ) → n < 2 ^ k → k ≤ r → n / 2 ^ r % 2 ≡ 1 → ⊥
none_past k n r h past e = let z : n / 2 ^ r ≡ 0 = div-eq_of_lt (lt_of_lt_of_le h (pow_mono past)) in omega arith

even_power : (k r : ℕ) → r < k → 2 ^ k / 2 ^ r ≡ 2 * 2 ^ (k - suc r)
even_power k r h =
    ap (λ (j : ℕ). 2 ^ j / 2 ^ r) (let e : k ≡ suc (k - suc r) + r = omega arith in e)
    ∙ ap (λ (x : ℕ). x / 2 ^ r) (pow-add 2 (suc (k - suc r)) r)
    ∙ shl-shr (2 ^ suc (k - suc r)) r
    ∙ pow-succ' 2 (k - suc r)

-- of a power of two only its own digit is set
pub power_digit : (k r : ℕ) → 2 ^ k / 2 ^ r % 2 ≡ 1 → r ≡ k
power_digit k r e =
    elim (cases_order r k) [
      | inl same ↦ same
      | inr apart ↦ elim apart [
        | inl less ↦ absurd (let z : 2 ^ k / 2 ^ r ≡ 2 * 2 ^ (k - suc r) = even_power k r less in omega (arith, z))
        | inr more ↦ absurd (let z : 2 ^ k / 2 ^ r ≡ 0 = div-eq_of_lt (pow_below k r more) in omega arith)
      ]
    ]

pub power_own : (k : ℕ) → 2 ^ k / 2 ^ k % 2 ≡ 1
power_own k = let z : 2 ^ k / 2 ^ k ≡ 1 = div_self (pow_pos k) in omega arith
