-- Ways along arrows, and how few arrows suffice.
use Rattle.std.proofs.Common.{◌≡◌, ℕ, zero, suc, ◌<◌, ◌≤◌, Bool, true, ◌&&◌, ◌||◌, eqb, ◌⊎◌, List, [], ◌∷◌, length, get_or, sym, refl, subst, inl, inr, arith}
use Rattle.std.proofs.lemmas.Bool.{or_left, or_right, or_cases, and_from, and_parts, eq-eqb, eqb-true}
use Rattle.spread.specs.declared.arrow.Arrow.{Arrow}
use Rattle.spread.specs.Leads.{Leads, here, along, Goes, AllInside, no_arrow}
use Rattle.spread.specs.Kinds.{count}
use Rattle.spread.proofs.Counts.{count_le, Sub, grow, count_some}

-- a way of so many arrows from q
pub data Way (arrows : List Arrow) (q : ℕ) : ℕ → ℕ → Type 0 where
  stay : Way arrows q zero q
  go : {j a b : ℕ} → Goes arrows a b → Way arrows q j a → Way arrows q (suc j) b

-- one row more from the places that pass f
abbrev into : List Arrow → (ℕ → Bool) → ℕ → Bool
into [] f p = f p
into (x ∷ xs) f p = (eqb x.to p && f x.from) || into xs f p

into_old : (xs : List Arrow) (f : ℕ → Bool) (p : ℕ) → f p ≡ true → into xs f p ≡ true
into_old [] f p h = h
into_old (x ∷ xs) f p h = or_right (eqb x.to p && f x.from) (into xs f p) (into_old xs f p h)

into_row : (xs : List Arrow) (f : ℕ → Bool) (i p : ℕ) → i < length xs → f (get_or xs i no_arrow).from ≡ true → (get_or xs i no_arrow).to ≡ p → into xs f p ≡ true
into_row [] f i p h e t = absurd (omega arith)
into_row (x ∷ xs) f zero p h e t = or_left _ (into xs f p) (and_from _ _ (eq-eqb x.to p t) e)
into_row (x ∷ xs) f (suc i) p h e t = or_right (eqb x.to p && f x.from) (into xs f p) (into_row xs f i p (omega arith) e t)

From : List Arrow → (ℕ → Bool) → ℕ → Type 0
From xs f p = (i : ℕ) × (i < length xs) × (f (get_or xs i no_arrow).from ≡ true) × ((get_or xs i no_arrow).to ≡ p)

into_from : (xs : List Arrow) (f : ℕ → Bool) (p : ℕ) → into xs f p ≡ true → (f p ≡ true) ⊎ From xs f p
unfolding From
into_from [] f p h = inl h
into_from (x ∷ xs) f p h =
    elim (or_cases (eqb x.to p && f x.from) (into xs f p) h) [
      | inl e ↦ (let parts = and_parts (eqb x.to p) (f x.from) e in inr (0, omega arith, parts.1, eqb-true x.to p parts.0))
      | inr e ↦ elim (into_from xs f p e) [ inl o ↦ inl o | inr r ↦ inr (suc r.0, omega arith, r.2, r.3) ]
    ]

-- the places that at most k rows lead to from q
abbrev reach : List Arrow → ℕ → ℕ → ℕ → Bool
reach arrows q zero p = eqb q p
reach arrows q (suc k) p = into arrows (reach arrows q k) p

-- no row leaves the places that pass f
Closed : List Arrow → (ℕ → Bool) → Type 0
Closed arrows f = (i : ℕ) → i < length arrows → f (get_or arrows i no_arrow).from ≡ true → f (get_or arrows i no_arrow).to ≡ true

module _ (arrows : List Arrow) (n : ℕ) (ends : AllInside n arrows) (q : ℕ) (q-in : q < n) where
  closed_more : (k : ℕ) → Closed arrows (reach arrows q k) → Closed arrows (reach arrows q (suc k))
  unfolding Closed From
  closed_more k c i h e =
      into_old arrows (reach arrows q k) (get_or arrows i no_arrow).to
      (c i h (elim (into_from arrows (reach arrows q k) (get_or arrows i no_arrow).from e) [
        | inl o ↦ o
        | inr r ↦ subst (λ (p : ℕ). reach arrows q k p ≡ true) r.3 (c r.0 r.1 r.2)
      ]))

  closed_since : (k : ℕ) → Sub (reach arrows q (suc k)) (reach arrows q k) n → Closed arrows (reach arrows q k)
  unfolding Closed
  closed_since k s i h e = s (get_or arrows i no_arrow).to (ends i h).1 (into_row arrows (reach arrows q k) i (get_or arrows i no_arrow).to h e refl)

  more : (k : ℕ) → (k < count (reach arrows q k) n) ⊎ Closed arrows (reach arrows q k)
  more zero = inl (count_some (reach arrows q zero) n q q-in (eq-eqb q q refl))
  more (suc k) = go_on (more k)
    where
      go_on : (k < count (reach arrows q k) n) ⊎ Closed arrows (reach arrows q k) → (suc k < count (reach arrows q (suc k)) n) ⊎ Closed arrows (reach arrows q (suc k))
      go_on (inr c) = inr (closed_more k c)
      go_on (inl h) =
          elim (grow (reach arrows q k) (reach arrows q (suc k)) n (λ p l e. into_old arrows (reach arrows q k) p e)) [
            | inl g ↦ inl (omega arith)
            | inr s ↦ inr (closed_more k (closed_since k s))
          ]

  all_closed : Closed arrows (reach arrows q n)
  all_closed = elim (more n) [ inl h ↦ absurd (omega (arith, count_le (reach arrows q n) n)) | inr c ↦ c ]

  reach_start : (k : ℕ) → reach arrows q k q ≡ true
  reach_start zero = eq-eqb q q refl
  reach_start (suc k) = into_old arrows (reach arrows q k) q (reach_start k)

  leads_reach : {p : ℕ} → Leads arrows q p → reach arrows q n p ≡ true
  unfolding Closed
  leads_reach here = reach_start n
  leads_reach (along r l) = subst (λ (b : ℕ). reach arrows q n b ≡ true) r.3 (all_closed r.0 r.1 (subst (λ (a : ℕ). reach arrows q n a ≡ true) (sym r.2) (leads_reach l)))

-- what is reached within k rows is reached by a way of so many
Short : List Arrow → ℕ → ℕ → ℕ → Type 0
Short arrows q k p = (j : ℕ) × (j ≤ k) × Way arrows q j p

reach_way : (arrows : List Arrow) (q k p : ℕ) → reach arrows q k p ≡ true → Short arrows q k p
unfolding Short From
reach_way arrows q zero p e = (0, omega arith, subst (λ (p : ℕ). Way arrows q 0 p) (eqb-true q p e) stay)
reach_way arrows q (suc k) p e =
    elim (into_from arrows (reach arrows q k) p e) [
      | inl o ↦ (let w = reach_way arrows q k p o in (w.0, omega arith, w.2))
      | inr r ↦ (let w = reach_way arrows q k (get_or arrows r.0 no_arrow).from r.2 in (suc w.0, omega arith, go (r.0, r.1, refl, r.3) w.2))
    ]

-- what leads to a place below n leads there by at most n rows
pub shorten : (arrows : List Arrow) (n : ℕ) → AllInside n arrows → (q p : ℕ) → q < n → Leads arrows q p → (j : ℕ) × (j ≤ n) × Way arrows q j p
unfolding Short
shorten arrows n ends q p q-in l = reach_way arrows q n p (leads_reach arrows n ends q q-in l)

-- what leads to a place below n is below n
pub leads_in : (arrows : List Arrow) (n : ℕ) → AllInside n arrows → {q p : ℕ} → Leads arrows q p → p < n → q < n
leads_in arrows n ends here h = h
leads_in arrows n ends (along r l) h = leads_in arrows n ends l (subst (λ (a : ℕ). a < n) r.2 (ends r.0 r.1).0)
