-- What is known of modules that were searched from grows by one module at a time. Assumes nothing.
use Rattle.std.proofs.Common.{◌≡◌, ℕ, ◌⊎◌, Some, Option, sym, ◌∙◌, subst, inl, inr}
use Rattle.source.specs.Meaning.{Meaning}
use Rattle.marks.proofs.Records.{some_is}
use Rattle.tla.specs.Once.{WaitsFor, Known}

pub known_more : (w : Meaning) (old new : ℕ → Option ℕ) (m s : ℕ) → WaitsFor w m s → ((u : ℕ) → (new u ≡ old u) ⊎ ((u ≡ m) × (new u ≡ Some s))) → Known w old → Known w new
known_more w old new m s here kept before t u lt e = elim (kept t) [
  | inl same ↦ before t u lt (sym same ∙ e)
  | inr this ↦ subst (λ (k : ℕ). WaitsFor w k u) (sym this.0) (subst (WaitsFor w m) (some_is (new t) s u this.1 e) here)
]
