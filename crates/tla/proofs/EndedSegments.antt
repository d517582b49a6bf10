-- Where the imports of a module stand among the arrows of all modules, by where each module's end. Assumes nothing.
use Rattle.std.proofs.Common.{◌≡◌, ℕ, zero, suc, ◌+◌, ◌-◌, ◌<◌, ◌≤◌, List, ◌++◌, map, length, get_or, take, drop, sym, refl, ap, ◌∙◌, add-one, arith}
use Rattle.std.proofs.lemmas.List.{ext_get_or, length-append, length-drop, length-map, length-take-le, get_or_append_left, get_or-append-add, get_or-take, get_or-drop, get_or-map}
use Rattle.source.specs.Meaning.{Meaning, count_of}
use Rattle.spread.specs.declared.arrow.Arrow.{Arrow}
use Rattle.spread.specs.Leads.{no_arrow}
use Rattle.tla.specs.Search.{imports_of, imports_before, start_of, LaidByEnds}
use Rattle.tla.proofs.Segments.{before_all, after, before_more, before_fits}

pub start_first : (ends : List ℕ) (m : ℕ) → m ≡ 0 → 0 ≡ start_of ends m
start_first ends m e = ap (start_of ends) (sym e)

pub start_later : (ends : List ℕ) (m : ℕ) → 0 < m → get_or ends (m - 1) 0 ≡ start_of ends m
start_later ends zero h = absurd (omega arith)
start_later ends (suc m) h = let e : suc m - 1 ≡ m = omega arith in ap (λ (k : ℕ). get_or ends k 0) e

-- a module's imports begin behind those of the modules before it
pub starts : (w : Meaning) (ends : List ℕ) (arrows : List Arrow) → LaidByEnds w ends arrows → (m : ℕ) → m < count_of w → start_of ends m ≡ length (imports_before w m)
starts w ends arrows laid zero h = refl
starts w ends arrows laid (suc m) h = laid.stops m (omega arith) ∙ ap (λ (k : ℕ). length (imports_before w k)) (add-one m)

module _ (w : Meaning) (ends : List ℕ) (arrows : List Arrow) (laid : LaidByEnds w ends arrows) (m : ℕ) (h : m < count_of w) (first : ℕ) (first-is : first ≡ start_of ends m) where
  begins : first ≡ length (imports_before w m)
  begins = first-is ∙ starts w ends arrows laid m h

  pub last_import : get_or ends m 0 ≡ first + length (imports_of w m)
  last_import =
      let all = laid.stops m h ∙ ap (λ (ts : List ℕ). length ts) (before_more w m h) ∙ length-append (imports_before w m) (imports_of w m) in
      omega (arith, all, begins)

  module _ (i : ℕ) (lo : first ≤ i) (hi : i < get_or ends m 0) where
    place : i - first < length (imports_of w m)
    place = omega (arith, last_import)

    among_all : get_or (imports_before w (count_of w)) i 0 ≡ get_or (imports_of w m) (i - first) 0
    among_all =
        let j = i - first in
        let at : i ≡ length (imports_before w m) + j = omega (arith, begins) in
        let long = ap (λ (ts : List ℕ). length ts) (before_more w m h) ∙ length-append (imports_before w m) (imports_of w m) in
        ap (λ (ts : List ℕ). get_or ts i 0) (before_all w (m + 1))
        ∙ get_or_append_left (imports_before w (m + 1)) (after w (m + 1)) 0 i (omega (arith, long, place, begins))
        ∙ ap (λ (ts : List ℕ). get_or ts i 0) (before_more w m h)
        ∙ ap (λ (k : ℕ). get_or (imports_before w m ++ imports_of w m) k 0) at
        ∙ get_or-append-add (imports_before w m) (imports_of w m) j 0

    pub arrow_is : (get_or arrows i no_arrow).to ≡ get_or (imports_of w m) (i - first) 0
    arrow_is =
        let n = length (imports_before w (count_of w)) in
        let lt : i < n = omega (arith, laid.stops m h, before_fits w (m + 1)) in
        let long = length-take-le n arrows laid.fits in
        sym (get_or-map (λ (a : Arrow). a.to) (take n arrows) i no_arrow 0 (omega (arith, long)) ∙ ap (λ (a : Arrow). a.to) (get_or-take n arrows i no_arrow lt))
        ∙ ap (λ (ts : List ℕ). get_or ts i 0) laid.targets
        ∙ among_all

  -- so its arrows, taken out, go to its imports
  pub imports_are : map (λ (a : Arrow). a.to) (take (get_or ends m 0 - first) (drop first arrows)) ≡ imports_of w m
  imports_are =
      let e = get_or ends m 0 in
      let xs = take (e - first) (drop first arrows) in
      let fits : e ≤ length arrows = omega (arith, laid.stops m h, before_fits w (m + 1), laid.fits) in
      let long : length xs ≡ e - first = length-take-le (e - first) (drop first arrows) (omega (arith, length-drop first arrows, fits)) in
      ext_get_or 0 (map (λ (a : Arrow). a.to) xs) (imports_of w m) (length-map xs (λ (a : Arrow). a.to) ∙ long ∙ omega (arith, last_import)) (λ j lt.
      let j_in : j < length xs = omega (arith, lt, length-map xs (λ (a : Arrow). a.to)) in
      let near : j < e - first = omega (arith, j_in, long) in
      let at : first + j - first ≡ j = omega arith in
      get_or-map (λ (a : Arrow). a.to) xs j no_arrow 0 j_in
      ∙ ap (λ (a : Arrow). a.to) (get_or-take (e - first) (drop first arrows) j no_arrow near ∙ get_or-drop first arrows j no_arrow)
      ∙ arrow_is (first + j) (omega arith) (omega (arith, near))
      ∙ ap (λ (k : ℕ). get_or (imports_of w m) k 0) at)

  pub first_below : first ≤ get_or ends m 0
  first_below = omega (arith, last_import)

  pub last_below : get_or ends m 0 ≤ length arrows
  last_below = omega (arith, laid.stops m h, before_fits w (m + 1), laid.fits)
