-- Records done so far, in scan order. Assumes nothing.
use Rattle.std.proofs.Common.{◌≡◌, ℕ, ◌+◌, ◌<◌, ◌≤◌, ◌⊎◌, ◌↔◌, refl, subst, inl, inr, arith}
use Rattle.std.proofs.lemmas.Bool.{cases_eq, cases_lt}

-- the records of all modules before m; the first k of module m alone
abbrev pub Before : ℕ → ℕ → ℕ → Type 0
Before m a j = a < m

abbrev pub Only : ℕ → ℕ → ℕ → ℕ → Type 0
Only m k a j = (a ≡ m) × (j < k)

-- one of the records done is such a record
abbrev pub Seen : (ℕ → ℕ → Type 0) → (ℕ → ℕ → Type 0) → Type 0
Seen Done Such = (a : ℕ) × (j : ℕ) × Done a j × Such a j

module _ (Such : ℕ → ℕ → Type 0) where
  pub none_only : (m : ℕ) → Seen (Only m 0) Such → ⊥
  none_only m s = omega (arith, s.2.1)

  pub only_more : (m k : ℕ) → (Seen (Only m k) Such ⊎ Such m k) ↔ Seen (Only m (k + 1)) Such
  only_more m k = (into, out)
    where
      into : Seen (Only m k) Such ⊎ Such m k → Seen (Only m (k + 1)) Such
      into (inl s) = (s.0, s.1, (s.2.0, omega (arith, s.2.1)), s.3)
      into (inr h) = (m, k, (refl, omega arith), h)

      out : Seen (Only m (k + 1)) Such → Seen (Only m k) Such ⊎ Such m k
      out s = elim (cases_eq s.1 k) [
        | inl same ↦ inr (subst (λ (y : ℕ). Such m y) same (subst (λ (y : ℕ). Such y s.1) s.2.0 s.3))
        | inr other ↦ inl (s.0, s.1, (s.2.0, omega (arith, s.2.1)), s.3)
      ]

  pub before_more : (m k : ℕ) → ((j : ℕ) → k ≤ j → Such m j → ⊥) → (Seen (Before m) Such ⊎ Seen (Only m k) Such) ↔ Seen (Before (m + 1)) Such
  before_more m k none = (into, out)
    where
      into : Seen (Before m) Such ⊎ Seen (Only m k) Such → Seen (Before (m + 1)) Such
      into (inl s) = (s.0, s.1, omega (arith, s.2), s.3)
      into (inr s) = (s.0, s.1, omega (arith, s.2.0), s.3)

      last : (a j : ℕ) → a ≡ m → Such a j → Only m k a j
      last a j e h = elim (cases_lt j k) [ inl lt ↦ (e, lt) | inr ge ↦ absurd (none j ge (subst (λ (y : ℕ). Such y j) e h)) ]

      out : Seen (Before (m + 1)) Such → Seen (Before m) Such ⊎ Seen (Only m k) Such
      out s = elim (cases_eq s.0 m) [
        | inl e ↦ inr (s.0, s.1, last s.0 s.1 e s.3, s.3)
        | inr ne ↦ inl (s.0, s.1, omega (arith, s.2), s.3)
      ]
