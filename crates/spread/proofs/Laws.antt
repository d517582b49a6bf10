-- The laws of spreading follow from what a spread is.
use Rattle.std.proofs.Common.{◌≡◌, ℕ, zero as Z, suc, ◌<◌, ◌≤◌, ◌⊎◌, List, [], ◌∷◌, length, get_or, sym, refl, ap, ◌∙◌, subst, inl, inr, arith}
use Rattle.std.proofs.lemmas.List.{ext_get_or, get_or_past}
use Rattle.std.proofs.lemmas.Bool.{cases_lt}
use Rattle.spread.specs.declared.arrow.Arrow.{Arrow}
use Rattle.spread.specs.Leads.{Leads, here, along}
use Rattle.spread.specs.Spread.{Spread, Made, nothing, one, both}
use Rattle.spread.specs.Laws.{each, Laws}
use Rattle.spread.proofs.Order.{Lattice, zero_below, below_trans, below_antisym, above_left, above_right, join_below}

pub leads_on : {arrows : List Arrow} {r q p : ℕ} → Leads arrows r q → Leads arrows q p → Leads arrows r p
leads_on l here = l
leads_on l (along row m) = along row (leads_on l m)

length_each : {F : Type 0} (join : F → F → F) (s t : List F) → length s ≡ length t → length (each join s t) ≡ length s
length_each join [] t h = refl
length_each join (x ∷ s) [] h = absurd (omega arith)
length_each join (x ∷ s) (y ∷ t) h = ap suc (length_each join s t (omega arith))

module _ {F : Type 0} {zero : F} {join : F → F → F} (laws : Lattice zero join) where
  getD_each : (s t : List F) (p : ℕ) → length s ≡ length t → get_or (each join s t) p zero ≡ join (get_or s p zero) (get_or t p zero)
  getD_each [] [] p h = sym (laws.idem zero)
  getD_each [] (y ∷ t) p h = absurd (omega arith)
  getD_each (x ∷ s) [] p h = absurd (omega arith)
  getD_each (x ∷ s) (y ∷ t) Z h = refl
  getD_each (x ∷ s) (y ∷ t) (suc p) h = getD_each s t p (omega arith)

  one_spread : (arrows : List Arrow) (s e f : List F) → Spread zero join arrows s e → Spread zero join arrows s f → e ≡ f
  one_spread arrows s e f a b = ext_get_or zero e f (a.long ∙ sym b.long) (λ p h. let i : p < length s = omega (arith, a.long) in below_antisym laws _ _ (a.least p _ i (λ q l. b.upper q p i l)) (b.least p _ i (λ q l. a.upper q p i l)))

  -- a result covers itself along the arrows
  carries_on : (arrows : List Arrow) (s e : List F) → Spread zero join arrows s e → (q p : ℕ) → p < length s → Leads arrows q p → join (get_or e p zero) (get_or e q zero) ≡ get_or e p zero
  carries_on arrows s e a q p i l = go (cases_lt q (length s))
    where
      go : (q < length s) ⊎ (length s ≤ q) → join (get_or e p zero) (get_or e q zero) ≡ get_or e p zero
      go (inl h) = a.least q (get_or e p zero) h (λ r m. a.upper r p i (leads_on m l))
      go (inr h) = rw (get_or_past e q zero (omega (arith, a.long))) (zero_below laws _)

  spread_again : (arrows : List Arrow) (s e : List F) → Spread zero join arrows s e → Spread zero join arrows e e
  spread_again arrows s e a = record {
    long = refl;
    upper = λ q p h l. carries_on arrows s e a q p (omega (arith, a.long)) l;
    least = λ p x h covers. covers p here;
    made = λ p h. one here;
  }

  -- what is made of starts is covered by something made of larger starts, below whatever covers those
  enlarged : (arrows : List Arrow) (start large : List F) → ((q : ℕ) → join (get_or large q zero) (get_or start q zero) ≡ get_or large q zero) → (p : ℕ) (top : F) → ((q : ℕ) → Leads arrows q p → join top (get_or large q zero) ≡ top) → {v : F} → Made zero join arrows start p v → (w : F) × Made zero join arrows large p w × (join w v ≡ w) × (join top w ≡ top)
  enlarged arrows start large covers p top bound nothing = (zero, nothing, laws.idem zero, zero_below laws top)
  enlarged arrows start large covers p top bound (one {q} l) = (get_or large q zero, one l, covers q, bound q l)
  enlarged arrows start large covers p top bound (both {x} {y} m n) =
      let a = enlarged arrows start large covers p top bound m in
      let b = enlarged arrows start large covers p top bound n in (
        join a.0 b.0,
        both a.1 b.1,
        join_below laws x y _ (below_trans laws x a.0 _ a.2 (above_left laws _ _)) (below_trans laws y b.0 _ b.2 (above_right laws _ _)),
        join_below laws _ _ top a.3 b.3,
      )

  module _ (arrows : List Arrow) (s t e f : List F) (same : length s ≡ length t) (a : Spread zero join arrows s e) (b : Spread zero join arrows t f) where
    ends_same : length e ≡ length f
    ends_same = a.long ∙ same ∙ sym b.long

    as_long : length (each join s t) ≡ length s
    as_long = length_each join s t same

    covered : (q p : ℕ) → p < length (each join s t) → Leads arrows q p → join (get_or (each join e f) p zero) (get_or (each join s t) q zero) ≡ get_or (each join e f) p zero
    covered q p h l =
        rw (getD_each e f p ends_same) (rw (getD_each s t q same) (join_below laws _ _ _
        (below_trans laws _ (get_or e p zero) _ (a.upper q p (omega (arith, as_long)) l) (above_left laws _ _))
        (below_trans laws _ (get_or f p zero) _ (b.upper q p (omega (arith, as_long)) l) (above_right laws _ _))))

    covers_left : (q : ℕ) → join (get_or (each join s t) q zero) (get_or s q zero) ≡ get_or (each join s t) q zero
    covers_left q = rw (getD_each s t q same) (above_left laws _ _)

    covers_right : (q : ℕ) → join (get_or (each join s t) q zero) (get_or t q zero) ≡ get_or (each join s t) q zero
    covers_right q = rw (getD_each s t q same) (above_right laws _ _)

    made_of_both : (p : ℕ) → p < length (each join s t) → Made zero join arrows (each join s t) p (get_or (each join e f) p zero)
    made_of_both p h =
        let x = get_or (each join e f) p zero in
        let m = enlarged arrows s (each join s t) covers_left p x (λ q l. covered q p h l) (a.made p (omega (arith, as_long))) in
        let n = enlarged arrows t (each join s t) covers_right p x (λ q l. covered q p h l) (b.made p (omega (arith, as_long))) in
        let w = join m.0 n.0 in
        let under : join w x ≡ w = subst (λ (v : F). join w v ≡ w) (sym (getD_each e f p ends_same)) (join_below laws _ _ w (below_trans laws _ m.0 w m.2 (above_left laws _ _)) (below_trans laws _ n.0 w n.2 (above_right laws _ _))) in
        subst (λ (v : F). Made zero join arrows (each join s t) p v) (below_antisym laws w x (join_below laws _ _ x m.3 n.3) under) (both m.1 n.1)

    spread_joined : Spread zero join arrows (each join s t) (each join e f)
    spread_joined = record {
      long = length_each join e f ends_same ∙ a.long ∙ sym as_long;
      upper = covered;
      least = λ p x h bound. rw (getD_each e f p ends_same) (join_below laws _ _ x
          (a.least p x (omega (arith, as_long)) (λ q l. below_trans laws _ (get_or (each join s t) q zero) x (covers_left q) (bound q l)))
          (b.least p x (omega (arith, as_long)) (λ q l. below_trans laws _ (get_or (each join s t) q zero) x (covers_right q) (bound q l))));
      made = made_of_both;
    }

  pub spread_laws : Laws zero join
  spread_laws = record { only = one_spread; joined = spread_joined; again = spread_again }
