-- How many numbers below n pass a test.
use Rattle.std.proofs.Common.{◌≡◌, ℕ, zero, suc, ◌<◌, ◌≤◌, Bool, true, false, cond, ◌⊎◌, sym, refl, subst, inl, inr, zero-le, arith}
use mathlib.Core.Bool.{false≢true}
use Rattle.std.proofs.lemmas.Bool.{cases_eq}
use Rattle.spread.specs.Kinds.{count}

abbrev bump : Bool → ℕ → ℕ
bump b n = cond b (suc n) n

bump_le : (b : Bool) (m n : ℕ) → m ≤ n → bump b m ≤ suc n
bump_le true m n h = omega arith
bump_le false m n h = omega arith

pub count_le : (f : ℕ → Bool) (n : ℕ) → count f n ≤ n
count_le f zero = zero-le
count_le f (suc n) = bump_le (f n) (count f n) n (count_le f n)

-- f passes only where g does
abbrev pub Sub : (ℕ → Bool) → (ℕ → Bool) → ℕ → Type 0
Sub f g n = (p : ℕ) → p < n → f p ≡ true → g p ≡ true

bump_mono : (b c : Bool) (m n : ℕ) → (b ≡ true → c ≡ true) → m ≤ n → bump b m ≤ bump c n
bump_mono true true m n s h = omega arith
bump_mono true false m n s h = absurd (false≢true (s refl))
bump_mono false true m n s h = omega arith
bump_mono false false m n s h = h

count_mono : (f g : ℕ → Bool) (n : ℕ) → Sub f g n → count f n ≤ count g n
count_mono f g zero s = zero-le
count_mono f g (suc n) s = bump_mono (f n) (g n) (count f n) (count g n) (s n (omega arith)) (count_mono f g n (λ p h. s p (omega arith)))

bump_grow : (b c : Bool) (m n : ℕ) → (b ≡ true → c ≡ true) → m ≤ n → (bump b m < bump c n) ⊎ (c ≡ true → b ≡ true)
bump_grow true c m n s h = inr (λ e. refl)
bump_grow false true m n s h = inl (omega arith)
bump_grow false false m n s h = inr (λ e. e)

bump_lt : (b c : Bool) (m n : ℕ) → (b ≡ true → c ≡ true) → m < n → bump b m < bump c n
bump_lt true true m n s h = omega arith
bump_lt true false m n s h = absurd (false≢true (s refl))
bump_lt false true m n s h = omega arith
bump_lt false false m n s h = h

-- either more places pass g than f, or just the same ones
pub grow : (f g : ℕ → Bool) (n : ℕ) → Sub f g n → (count f n < count g n) ⊎ Sub g f n
grow f g zero s = inr (λ p h e. absurd (omega arith))
grow f g (suc n) s = go (grow f g n (λ p h. s p (omega arith)))
  where
    mono : count f n ≤ count g n
    mono = count_mono f g n (λ p h. s p (omega arith))

    join : Sub g f n → (g n ≡ true → f n ≡ true) → Sub g f (suc n)
    join below here p h = elim (cases_eq p n) [ inl e ↦ subst (λ (k : ℕ). g k ≡ true → f k ≡ true) (sym e) here | inr ne ↦ below p (omega arith) ]

    last : Sub g f n → (bump (f n) (count f n) < bump (g n) (count g n)) ⊎ (g n ≡ true → f n ≡ true) → (count f (suc n) < count g (suc n)) ⊎ Sub g f (suc n)
    last below (inl h) = inl h
    last below (inr here) = inr (join below here)

    go : (count f n < count g n) ⊎ Sub g f n → (count f (suc n) < count g (suc n)) ⊎ Sub g f (suc n)
    go (inl h) = inl (bump_lt (f n) (g n) (count f n) (count g n) (s n (omega arith)) h)
    go (inr below) = last below (bump_grow (f n) (g n) (count f n) (count g n) (s n (omega arith)) mono)

bump_some : (b : Bool) (m : ℕ) → (b ≡ true) ⊎ (0 < m) → 0 < bump b m
bump_some true m h = omega arith
bump_some false m (inl e) = absurd (false≢true e)
bump_some false m (inr h) = h

pub count_some : (f : ℕ → Bool) (n q : ℕ) → q < n → f q ≡ true → 0 < count f n
count_some f zero q h e = absurd (omega arith)
count_some f (suc n) q h e = bump_some (f n) (count f n) (elim (cases_eq q n) [ inl k ↦ inl (subst (λ (k : ℕ). f k ≡ true) k e) | inr ne ↦ inr (count_some f n q (omega arith) e) ])
