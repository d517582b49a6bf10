-- There is one set of the entries that lead to a module. Assumes nothing.
use Rattle.std.proofs.Common.{◌≡◌, ℕ, zero, suc, ◌+◌, ◌/◌, ◌%◌, ◌^◌, ◌<◌, ◌≤◌, true, ◌↔◌, sym, ap, ◌∙◌, subst, inl, inr, div-one, add-one, arith, shr-shr, shr_lt}
use Rattle.std.proofs.lemmas.List.Sums.{count_by_more_yes, count_by_more_no}
use Rattle.std.proofs.lemmas.Bool.{cases_Bool, cases_eq}
use Rattle.source.specs.Meaning.{Meaning, count_of, module_at, past_modules}
use Rattle.marks.specs.Passes.{is_entry, entry_scanned, rank, EntriesTo}

-- a number by its half and its last bit
half_less : (k n : ℕ) → n < 2 ^ suc k → n / 2 < 2 ^ k
half_less k n lt = shr_lt k 1 (subst (λ (i : ℕ). n < 2 ^ i) (sym (add-one k)) lt)

half_bit : (n r : ℕ) → n / 2 / 2 ^ r % 2 ≡ n / 2 ^ (1 + r) % 2
half_bit n r = ap (λ (x : ℕ). x % 2) (shr-shr n 1 r)

last_bit : (n : ℕ) → n / 2 ^ 0 % 2 ≡ n % 2
last_bit n = ap (λ (x : ℕ). x % 2) (div-one n)

last_same : (a b : ℕ) → (a / 2 ^ 0 % 2 ≡ 1) ↔ (b / 2 ^ 0 % 2 ≡ 1) → a % 2 ≡ b % 2
last_same a b s = elim (cases_eq (a % 2) 1) [
  | inl e ↦ e ∙ sym (sym (last_bit b) ∙ s.0 (last_bit a ∙ e))
  | inr ne ↦ elim (cases_eq (b % 2) 1) [
    | inl e ↦ absurd (ne (sym (last_bit a) ∙ s.1 (last_bit b ∙ e)))
    | inr na ↦ omega arith
  ]
]

-- numbers with the same ones are the same
bits_same : (k a b : ℕ) → a < 2 ^ k → b < 2 ^ k → ((r : ℕ) → r < k → (a / 2 ^ r % 2 ≡ 1) ↔ (b / 2 ^ r % 2 ≡ 1)) → a ≡ b
bits_same zero a b la lb same = omega arith
bits_same (suc k) a b la lb same =
    let halves = bits_same k (a / 2) (b / 2) (half_less k a la) (half_less k b lb) (λ r lt. (
      λ e. half_bit b r ∙ (same (1 + r) (omega arith)).0 (sym (half_bit a r) ∙ e),
      λ e. half_bit a r ∙ (same (1 + r) (omega arith)).1 (sym (half_bit b r) ∙ e),
    )) in
    omega (arith, halves, last_same a b (same 0 (omega arith)))

module _ (w : Meaning) where
  -- every rank is some entry module's
  entry_of : (n r : ℕ) → n ≤ count_of w → r < rank w n → (q : ℕ) × (is_entry (module_at w q) ≡ true) × (rank w q ≡ r)
  entry_of zero r le lt = absurd (omega arith)
  entry_of (suc n) r le lt =
      let next : rank w (n + 1) ≡ rank w (suc n) = ap (rank w) (add-one n) in
      elim (cases_Bool (is_entry (module_at w n))) [
        | inl e ↦ elim (cases_eq r (rank w n)) [
          | inl q ↦ (n, e, sym q)
          | inr ne ↦ let more = count_by_more_yes entry_scanned w.modules n past_modules (omega arith) e in entry_of n r (omega arith) (omega (arith, next, more))
        ]
        | inr e ↦ let same = count_by_more_no entry_scanned w.modules n past_modules (omega arith) e in entry_of n r (omega arith) (omega (arith, next, same))
      ]

  pub one_set : (m a b : ℕ) → EntriesTo w m a → EntriesTo w m b → a ≡ b
  one_set m a b x y = bits_same (rank w (count_of w)) a b x.no_more y.no_more (λ r lt.
      let q = entry_of (count_of w) r (omega arith) lt in
      subst (λ (i : ℕ). (a / 2 ^ i % 2 ≡ 1) ↔ (b / 2 ^ i % 2 ≡ 1)) q.2 (
        λ e. (y.each q.0 q.1).1 ((x.each q.0 q.1).0 e),
        λ e. (x.each q.0 q.1).1 ((y.each q.0 q.1).0 e),
      ))
