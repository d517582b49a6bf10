-- Where each module's arrows end, as they are copied. Assumes nothing.
use Rattle.std.proofs.Common.{◌≡◌, ℕ, ◌+◌, ◌<◌, ◌≤◌, List, map, length, get_or, take, set, sym, ap, ◌∙◌, subst, inl, inr, arith}
use Rattle.std.proofs.lemmas.List.{get_or-set_same, get_or-set_other}
use Rattle.std.proofs.lemmas.Bool.{cases_eq}
use Rattle.source.specs.Meaning.{Meaning, count_of, record_total}
use Rattle.spread.specs.declared.arrow.Arrow.{Arrow}
use Rattle.tla.specs.Search.{imports_before, LaidByEnds}
use Rattle.tla.proofs.Copies.{Copied, imports_total}

-- where each module's arrows end
abbrev pub Ended : Meaning → List ℕ → ℕ → Type 0
Ended w ends m = (j : ℕ) → j < m → get_or ends j 0 ≡ length (imports_before w (j + 1))

pub ended_more : (w : Meaning) (ends : List ℕ) (m n : ℕ) → m < length ends → n ≡ length (imports_before w (m + 1)) → Ended w ends m → Ended w (set ends m n) (m + 1)
ended_more w ends m n h is b j lt = elim (cases_eq j m) [
  | inl e ↦ ap (λ (k : ℕ). get_or (set ends m n) k 0) e ∙ get_or-set_same ends m n 0 h ∙ is ∙ ap (λ (k : ℕ). length (imports_before w (k + 1))) (sym e)
  | inr ne ↦ get_or-set_other ends m j n 0 ne ∙ b j (omega arith)
]

pub laid_by_ends : (w : Meaning) (ends : List ℕ) (arrows : List Arrow) (m n : ℕ) → m ≡ count_of w → count_of w ≤ length ends → record_total w ≤ length arrows → Ended w ends m → Copied (imports_before w m) arrows n → LaidByEnds w ends arrows
laid_by_ends w ends arrows m n m-is long fits ended some = record {
  long = long;
  fits = omega (arith, imports_total w);
  stops = λ j lt. ended j (omega arith);
  targets = ap (λ (k : ℕ). map (λ (a : Arrow). a.to) (take k arrows)) (sym all.count) ∙ all.targets;
}
  where
    all : Copied (imports_before w (count_of w)) arrows n
    all = subst (λ (k : ℕ). Copied (imports_before w k) arrows n) m-is some
