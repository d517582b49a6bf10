-- What stands after so many sweeps.
use Rattle.std.proofs.Common.{◌≡◌, ℕ, ◌+◌, ◌<◌, ◌≤◌, Bool, false, List, length, get_or, refl, ◌∙◌, subst, arith}
use Rattle.spread.specs.declared.arrow.Arrow.{Arrow}
use Rattle.spread.specs.Leads.{Leads, here, along, Goes, AllInside, no_arrow}
use Rattle.spread.specs.Spread.{Spread, one}
use Rattle.spread.specs.Sweep.{AllMade, Swept, Each}
use Rattle.spread.proofs.Order.{Lattice, below_trans}
use Rattle.spread.proofs.Steps.{made_below}
use Rattle.spread.proofs.Paths.{Way, stay, go, shorten, leads_in}

-- every start has come as far as k rows lead, and nothing else has come
pub record Rounds {F : Type 0} (zero : F) (join : F → F → F) (arrows : List Arrow) (start cur : List F) (k : ℕ) : Type 0 where
  pub long : length cur ≡ length start
  pub made : AllMade zero join arrows start cur
  pub cover : (q j p : ℕ) → j ≤ k → Way arrows q j p → join (get_or cur p zero) (get_or start q zero) ≡ get_or cur p zero

module _ {F : Type 0} {zero : F} {join : F → F → F} (laws : Lattice zero join) (arrows : List Arrow) (start : List F) where
  at_stay : (cur : List F) (q j p : ℕ) → j ≤ 0 → Way arrows q j p → p ≡ q
  at_stay cur q j p h stay = refl
  at_stay cur q j p h (go r w) = absurd (omega arith)

  pub rounds_none : Rounds zero join arrows start start 0
  rounds_none = record {
    long = refl;
    made = λ p h. one here;
    cover = λ q j p h w. rw (at_stay start q j p h w) (laws.idem _);
  }

  -- a row takes what its start had to its end
  brings : (old new : List F) (changed : Bool) → Swept zero join arrows Each old new changed → (a b : ℕ) → Goes arrows a b → join (get_or new b zero) (get_or old a zero) ≡ get_or new b zero
  brings old new changed s a b r = subst (λ (y : ℕ). join (get_or new y zero) (get_or old a zero) ≡ get_or new y zero) r.3 (subst (λ (x : ℕ). join (get_or new (get_or arrows r.0 no_arrow).to zero) (get_or old x zero) ≡ get_or new (get_or arrows r.0 no_arrow).to zero) r.2 (s.brought r.0 r.1 tt))

  pub rounds_more : (old new : List F) (k : ℕ) (changed : Bool) → Rounds zero join arrows start old k → Swept zero join arrows Each old new changed → Rounds zero join arrows start new (k + 1)
  rounds_more old new k changed r s = record {
    long = s.long ∙ r.long;
    made = s.made start r.made;
    cover = covers;
  }
    where
      covers : (q j p : ℕ) → j ≤ k + 1 → Way arrows q j p → join (get_or new p zero) (get_or start q zero) ≡ get_or new p zero
      covers q j p h stay = below_trans laws _ (get_or old q zero) _ (r.cover q 0 q (omega arith) stay) (s.above q)
      covers q j p h (go {j = i} {a} {b} row w) = below_trans laws _ (get_or old a zero) _ (r.cover q i a (omega arith) w) (brings old new changed s a b row)

  least_of : (cur : List F) → length cur ≡ length start → AllMade zero join arrows start cur → (p : ℕ) (x : F) → p < length start → ((q : ℕ) → Leads arrows q p → join x (get_or start q zero) ≡ x) → join x (get_or cur p zero) ≡ x
  least_of cur long made p x h bound = made_below laws x bound (made p (omega (arith, long)))

  -- after a sweep that changes nothing all has come
  pub rounds_still : (old new : List F) (k : ℕ) → Rounds zero join arrows start old k → Swept zero join arrows Each old new false → Spread zero join arrows start new
  rounds_still old new k r s = record {
    long = s.long ∙ r.long;
    upper = λ q p h l. uppers l;
    least = least_of new (s.long ∙ r.long) (s.made start r.made);
    made = λ p h. s.made start r.made p (omega (arith, s.long, r.long));
  }
    where
      uppers : {q p : ℕ} → Leads arrows q p → join (get_or new p zero) (get_or start q zero) ≡ get_or new p zero
      uppers {q} here = below_trans laws _ (get_or old q zero) _ (r.cover q 0 q (omega arith) stay) (s.above q)
      uppers {q} (along {a} {b} row l) = below_trans laws _ (get_or old a zero) _ (subst (λ (xs : List F). join (get_or xs a zero) (get_or start q zero) ≡ get_or xs a zero) (s.still refl) (uppers l)) (brings old new false s a b row)

  -- and so it has after as many sweeps as there are places
  pub rounds_all : (cur : List F) (k : ℕ) → length start ≤ k → AllInside (length start) arrows → Rounds zero join arrows start cur k → Spread zero join arrows start cur
  rounds_all cur k enough ends r = record {
    long = r.long;
    upper = λ q p h l. let w = shorten arrows (length start) ends q p (leads_in arrows (length start) ends l h) l in r.cover q w.0 p (omega arith) w.2;
    least = least_of cur r.long r.made;
    made = λ p h. r.made p (omega (arith, r.long));
  }
