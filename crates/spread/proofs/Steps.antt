-- One step of a sweep.
use Rattle.std.proofs.Common.{◌≡◌, ℕ, ◌+◌, ◌<◌, Bool, false, ◌⊎◌, List, length, get_or, set, sym, refl, ap, ◌∙◌, subst, inl, inr, arith}
use Rattle.std.proofs.lemmas.List.{get_or-set_same, get_or-set_other, set-get_or, length-set}
use Rattle.std.proofs.lemmas.Bool.{cases_eq}
use Rattle.spread.specs.declared.arrow.Arrow.{Arrow}
use Rattle.spread.specs.Leads.{Leads, along, Goes, Inside, no_arrow}
use Rattle.spread.specs.Spread.{Made, nothing, one, both}
use Rattle.spread.specs.Sweep.{AllMade, carried, Swept}
use Rattle.spread.proofs.Order.{Lattice, zero_below, below_trans, above_left, above_right, join_below}

module _ {F : Type 0} {zero : F} {join : F → F → F} where
  -- what is made of starts that lead to a is made of starts that lead on to b
  made_along : {arrows : List Arrow} {start : List F} {a b : ℕ} → Goes arrows a b → {v : F} → Made zero join arrows start a v → Made zero join arrows start b v
  made_along r nothing = nothing
  made_along r (one l) = one (along r l)
  made_along r (both m n) = both (made_along r m) (made_along r n)

  -- and is below whatever all those starts are below
  pub made_below : Lattice zero join → {arrows : List Arrow} {start : List F} {p : ℕ} (x : F) → ((q : ℕ) → Leads arrows q p → join x (get_or start q zero) ≡ x) → {v : F} → Made zero join arrows start p v → join x v ≡ x
  made_below laws x h nothing = zero_below laws x
  made_below laws x h (one l) = h _ l
  made_below laws x h (both m n) = join_below laws _ _ x (made_below laws x h m) (made_below laws x h n)

module _ {F : Type 0} (zero : F) (join : F → F → F) where
  -- an arrow is taken by a write of the join of what stands at its ends
  pub carried_is : (xs : List F) (a : Arrow) (old from new : F) → old ≡ get_or xs a.to zero → from ≡ get_or xs a.from zero → new ≡ join old from → set xs a.to new ≡ carried zero join xs a
  carried_is xs a old from new o f n = ap (set xs a.to) cc

  -- which leaves the facts as they are where the join is what stood there
  pub carried_same : (xs : List F) (a : Arrow) (old new : F) → old ≡ get_or xs a.to zero → old ≡ new → set xs a.to new ≡ xs
  carried_same xs a old new o s = ap (set xs a.to) (sym s ∙ o) ∙ set-get_or xs a.to zero

module _ {F : Type 0} {zero : F} {join : F → F → F} (laws : Lattice zero join) where
  -- what stands at a place after an arrow is taken: at its end, and elsewhere
  carried_to : (xs : List F) (a : Arrow) → a.to < length xs → get_or (carried zero join xs a) a.to zero ≡ join (get_or xs a.to zero) (get_or xs a.from zero)
  carried_to xs a h = get_or-set_same xs a.to _ zero h

  carried_above : (xs : List F) (a : Arrow) → a.to < length xs → (p : ℕ) → join (get_or (carried zero join xs a) p zero) (get_or xs p zero) ≡ get_or (carried zero join xs a) p zero
  carried_above xs a h p = go (cases_eq p a.to)
    where
      go : (p ≡ a.to) ⊎ (p ≡ a.to → ⊥) → join (get_or (carried zero join xs a) p zero) (get_or xs p zero) ≡ get_or (carried zero join xs a) p zero
      go (inl e) = rw e (rw (carried_to xs a h) (above_left laws _ _))
      go (inr n) = rw (get_or-set_other xs a.to p (join (get_or xs a.to zero) (get_or xs a.from zero)) zero n) (laws.idem _)

  carried_from : (xs : List F) (a : Arrow) → a.to < length xs → join (get_or (carried zero join xs a) a.to zero) (get_or xs a.from zero) ≡ get_or (carried zero join xs a) a.to zero
  carried_from xs a h = rw (carried_to xs a h) (above_right laws _ _)

  carried_made : (arrows : List Arrow) (start xs : List F) (a : Arrow) → Goes arrows a.from a.to → Inside (length xs) a → AllMade zero join arrows start xs → AllMade zero join arrows start (carried zero join xs a)
  carried_made arrows start xs a row ends made p h = go (cases_eq p a.to)
    where
      go : (p ≡ a.to) ⊎ (p ≡ a.to → ⊥) → Made zero join arrows start p (get_or (carried zero join xs a) p zero)
      go (inl e) = rw e (rw (carried_to xs a ends.1) (both (made a.to ends.1) (made_along row (made a.from ends.0))))
      go (inr n) = rw (get_or-set_other xs a.to p (join (get_or xs a.to zero) (get_or xs a.from zero)) zero n) (made p (rw length-set at h))

  pub swept_step : (arrows : List Arrow) (Done Next : ℕ → Type 0) (old cur new : List F) (before after : Bool) (i : ℕ) → i < length arrows → Inside (length old) (get_or arrows i no_arrow) → Swept zero join arrows Done old cur before → new ≡ carried zero join cur (get_or arrows i no_arrow) → (after ≡ false → (new ≡ cur) × (before ≡ false)) → ((j : ℕ) → Next j → Done j ⊎ (j ≡ i)) → Swept zero join arrows Next old new after
  swept_step arrows Done Next old cur new before after i i_in ends s e quiet split = record {
    long = ap length e ∙ length-set cur _ _ ∙ s.long;
    above = λ p. below_trans laws (get_or old p zero) (get_or cur p zero) (get_or new p zero) (s.above p) (grows p);
    brought = λ j h n. comes j h (split j n);
    made = λ start m. subst (λ (xs : List F). AllMade zero join arrows start xs) (sym e) (carried_made arrows start cur a (i, i_in, refl, refl) in_cur (s.made start m));
    still = λ f. (quiet f).0 ∙ s.still (quiet f).1;
  }
    where
      a : Arrow
      a = get_or arrows i no_arrow

      in_cur : Inside (length cur) (get_or arrows i no_arrow)
      in_cur = rw s.long ends

      grows : (p : ℕ) → join (get_or new p zero) (get_or cur p zero) ≡ get_or new p zero
      grows p = rw e (carried_above cur (get_or arrows i no_arrow) in_cur.1 p)

      comes : (j : ℕ) → j < length arrows → Done j ⊎ (j ≡ i) → join (get_or new (get_or arrows j no_arrow).to zero) (get_or old (get_or arrows j no_arrow).from zero) ≡ get_or new (get_or arrows j no_arrow).to zero
      comes j h (inl d) = below_trans laws _ (get_or cur (get_or arrows j no_arrow).to zero) _ (s.brought j h d) (grows (get_or arrows j no_arrow).to)
      comes j h (inr k) = rw k (below_trans laws _ (get_or cur (get_or arrows i no_arrow).from zero) _ (s.above (get_or arrows i no_arrow).from) (rw e (carried_from cur (get_or arrows i no_arrow) in_cur.1)))

-- a row that is done after one more is that one, or was done before
pub until_split : (i j : ℕ) → j < i + 1 → (j < i) ⊎ (j ≡ i)
until_split i j h = elim (cases_eq j i) [ inl e ↦ inr e | inr n ↦ inl (omega arith) ]
