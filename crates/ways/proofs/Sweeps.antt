-- Raising flags record by record, in scan order. Assumes nothing.
use Rattle.std.proofs.Common.{◌≡◌, ℕ, ◌+◌, ◌<◌, ◌≤◌, Bool, ◌⊎◌, refl, subst, inl, inr, arith}
use Rattle.std.proofs.lemmas.Bool.{cases_eq, cases_lt}
use Rattle.marks.specs.Rows.{Raised}

-- what is done: before module m; of its records the first k; all
abbrev pub Before : ℕ → ℕ → ℕ → Type 0
Before m a j = a < m

abbrev pub Only : ℕ → ℕ → ℕ → ℕ → Type 0
Only m k a j = (a ≡ m) × (j < k)

abbrev pub All : ℕ → ℕ → Type 0
All a j = Unit {0}

-- some record that is done raises t
abbrev pub Seen : (ℕ → ℕ → Type 0) → (ℕ → ℕ → ℕ → Type 0) → ℕ → Type 0
Seen Done C t = (a : ℕ) × (j : ℕ) × Done a j × C a j t

abbrev pub Marked : (ℕ → ℕ → Type 0) → (ℕ → ℕ → ℕ → Type 0) → (ℕ → Bool) → (ℕ → Bool) → Type 0
Marked Done C old new = (t : ℕ) → Raised (Seen Done C t) (old t) (new t)

pub raised_same : {P : Type 0} {b : Bool} → (P → ⊥) → Raised P b b
raised_same n = record { kept = λ e. e; made = λ p. absurd (n p); only = λ e. inl e }

pub raised_as : {P Q : Type 0} {a b : Bool} → (P → Q) → (Q → P) → Raised P a b → Raised Q a b
raised_as f g r = record { kept = r.kept; made = λ q. r.made (g q); only = λ e. elim (r.only e) [ inl x ↦ inl x | inr p ↦ inr (f p) ] }

pub raised_also : {P Q : Type 0} {a b c : Bool} → Raised P a b → Raised Q b c → Raised (P ⊎ Q) a c
raised_also r s = record {
  kept = λ e. s.kept (r.kept e);
  made = λ d. elim d [ inl p ↦ s.kept (r.made p) | inr q ↦ s.made q ];
  only = λ e. elim (s.only e) [ inl x ↦ elim (r.only x) [ inl y ↦ inl y | inr p ↦ inr (inl p) ] | inr q ↦ inr (inr q) ];
}

module _ (C : ℕ → ℕ → ℕ → Type 0) where
  pub marked_start : (m : ℕ) (f : ℕ → Bool) → Marked (Only m 0) C f f
  marked_start m f t = raised_same (λ s. omega (arith, s.2.1))

  pub marked_step : (m k : ℕ) (Q : ℕ → Type 0) (f g h : ℕ → Bool) → ((x : ℕ) → Q x → C m k x) → ((x : ℕ) → C m k x → Q x) → Marked (Only m k) C f g → ((x : ℕ) → Raised (Q x) (g x) (h x)) → Marked (Only m (k + 1)) C f h
  marked_step m k Q f g h to from r s t = raised_as into out (raised_also (r t) (s t))
    where
      into : Seen (Only m k) C t ⊎ Q t → Seen (Only m (k + 1)) C t
      into (inl x) = (x.0, x.1, (x.2.0, omega (arith, x.2.1)), x.3)
      into (inr q) = (m, k, (refl, omega arith), to t q)

      out : Seen (Only m (k + 1)) C t → Seen (Only m k) C t ⊎ Q t
      out x = elim (cases_eq x.1 k) [
        | inl same ↦ inr (from t (subst (λ (y : ℕ). C m y t) same (subst (λ (y : ℕ). C y x.1 t) x.2.0 x.3)))
        | inr other ↦ inl (x.0, x.1, (x.2.0, omega (arith, x.2.1)), x.3)
      ]

  pub marked_join : (m k : ℕ) (f g h : ℕ → Bool) → ((j x : ℕ) → k ≤ j → C m j x → ⊥) → Marked (Before m) C f g → Marked (Only m k) C g h → Marked (Before (m + 1)) C f h
  marked_join m k f g h none r s t = raised_as into out (raised_also (r t) (s t))
    where
      into : Seen (Before m) C t ⊎ Seen (Only m k) C t → Seen (Before (m + 1)) C t
      into (inl x) = (x.0, x.1, omega (arith, x.2), x.3)
      into (inr x) = (x.0, x.1, omega (arith, x.2.0), x.3)

      last : (a j : ℕ) → a ≡ m → C a j t → Only m k a j
      last a j e c = elim (cases_lt j k) [ inl lt ↦ (e, lt) | inr ge ↦ absurd (none j t ge (subst (λ (y : ℕ). C y j t) e c)) ]

      out : Seen (Before (m + 1)) C t → Seen (Before m) C t ⊎ Seen (Only m k) C t
      out x = elim (cases_eq x.0 m) [ inl e ↦ inr (x.0, x.1, last x.0 x.1 e x.3, x.3) | inr ne ↦ inl (x.0, x.1, omega (arith, x.2), x.3) ]

  pub marked_skip : (m : ℕ) (f g : ℕ → Bool) → ((j x : ℕ) → C m j x → ⊥) → Marked (Before m) C f g → Marked (Before (m + 1)) C f g
  marked_skip m f g none r = marked_join m 0 f g g (λ j x h c. none j x c) r (marked_start m g)

  pub marked_all : (n : ℕ) (f g : ℕ → Bool) → ((a j x : ℕ) → C a j x → a < n) → Marked (Before n) C f g → Marked All C f g
  marked_all n f g below r t = raised_as (λ s. (s.0, s.1, tt, s.3)) (λ s. (s.0, s.1, below s.0 s.1 t s.3, s.3)) (r t)
