-- The arrows of a module's imports, followed one after another. Assumes nothing.
use Rattle.std.proofs.Common.{◌≡◌, ℕ, ◌+◌, ◌<◌, ◌≤◌, List, ◌∷◌, map, length, get_or, drop, sym, ap, ◌∙◌, subst, arith}
use Rattle.std.proofs.ByRecursion.{All-get_or}
use Rattle.std.proofs.lemmas.List.{drop_more, get_or-map, length-map}
use Rattle.source.specs.Meaning.{Meaning, Proper, count_of}
use Rattle.spread.specs.declared.arrow.Arrow.{Arrow}
use Rattle.spread.specs.Leads.{no_arrow}
use Rattle.ways.specs.Ways.{Targets}
use Rattle.tla.proofs.Targets.{imports_inside}
use Rattle.tla.specs.Search.{imports_of}

module _ (w : Meaning) (m : ℕ) (xs : List Arrow) (are : map (λ (a : Arrow). a.to) xs ≡ imports_of w m) where
  as_long : length (imports_of w m) ≡ length xs
  as_long = sym (ap (λ (ts : List ℕ). length ts) are) ∙ length-map xs (λ (a : Arrow). a.to)

  pub all_followed : (i : ℕ) → length xs ≤ i → length (imports_of w m) ≤ i
  all_followed i le = omega (arith, as_long)

  module _ (i : ℕ) (lt : i < length xs) where
    here : (get_or xs i no_arrow).to ≡ get_or (imports_of w m) i 0
    here = sym (get_or-map (λ (a : Arrow). a.to) xs i no_arrow 0 lt) ∙ ap (λ (ts : List ℕ). get_or ts i 0) are

    place : i < length (imports_of w m)
    place = omega (arith, as_long)

    pub imports_left : drop i (imports_of w m) ≡ (get_or xs i no_arrow).to ∷ drop (i + 1) (imports_of w m)
    imports_left = drop_more (imports_of w m) i 0 place ∙ ap (λ (t : ℕ). t ∷ drop (i + 1) (imports_of w m)) (sym here)

    pub import_inside : Proper w → Targets w → (get_or xs i no_arrow).to < count_of w
    import_inside proper targets = subst (λ (t : ℕ). t < count_of w) (sym here) (All-get_or (λ t. t < count_of w) (imports_of w m) i 0 place (imports_inside w proper targets m))
