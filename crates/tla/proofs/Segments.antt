-- Where the imports of a module stand among the arrows of all modules. Assumes nothing.
use Rattle.std.proofs.Common.{◌≡◌, ℕ, ◌+◌, ◌<◌, ◌≤◌, List, [], ◌∷◌, ◌++◌, length, take, drop, sym, refl, ap, ◌∙◌, append_assoc, arith}
use Rattle.std.proofs.lemmas.List.{take_more, take_all, take-append-drop, length-append, flat_map_more}
use Rattle.std.specs.List.{flat_map}
use Rattle.source.specs.Meaning.{Meaning, Scanned, count_of, scanned_at, past_modules}
use Rattle.tla.specs.Search.{imports_in, imports_of, imports_before}

abbrev pub scanned_imports : Scanned → List ℕ
scanned_imports s = imports_in s.records

pub joined_append : {X A : Type 0} (f : X → List A) (xs ys : List X) → flat_map f (xs ++ ys) ≡ flat_map f xs ++ flat_map f ys
joined_append f [] ys = refl
joined_append f (x ∷ xs) ys = ap (λ zs. f x ++ zs) (joined_append f xs ys) ∙ sym (append_assoc (f x) (flat_map f xs) (flat_map f ys))

module _ (w : Meaning) where
  pub before_more : (m : ℕ) → m < count_of w → imports_before w (m + 1) ≡ imports_before w m ++ imports_of w m
  before_more m h = ap (flat_map scanned_imports) (take_more w.modules m past_modules h) ∙ sym (flat_map_more scanned_imports [] (take m w.modules) (scanned_at w m))

  abbrev pub after : (m : ℕ) → List ℕ
  after m = flat_map scanned_imports (drop m w.modules)

  pub before_all : (m : ℕ) → imports_before w (count_of w) ≡ imports_before w m ++ after m
  before_all m =
      ap (flat_map scanned_imports) (take_all (count_of w) w.modules (omega arith) ∙ sym (take-append-drop m w.modules))
      ∙ joined_append scanned_imports (take m w.modules) (drop m w.modules)

  pub before_fits : (m : ℕ) → length (imports_before w m) ≤ length (imports_before w (count_of w))
  before_fits m = let all = ap (λ (ts : List ℕ). length ts) (before_all m) ∙ length-append (imports_before w m) (after m) in omega (arith, all)
