-- The tests of the wrap pass. Assumes nothing.
use Rattle.std.proofs.Common.{◌≡◌, ℕ, Bool, true, ◌&&◌, ◌||◌, ◌⊎◌, ◌↔◌, sym, refl, ◌∙◌, inl, inr, arith}
use Rattle.std.proofs.lemmas.Bool.{and_parts, and_from, or_cases, or_left, or_right}
use Rattle.source.specs.declared.ExportsKind.{ExportsKind}
use Rattle.source.specs.declared.ExportsKind.TheVariants.{None as Unknown, Esm, CommonJs}
use Rattle.source.specs.declared.Module.{Module}
use Rattle.source.specs.declared.Module.TheVariants.{External, Normal}
use Rattle.source.specs.declared.NormalModule.{NormalModule}
use Rattle.ways.specs.Targets.{is_normal}
use Rattle.wrapping.specs.Wraps.{is_common}

-- may, and p together with c, or v; c and v are tests whose answers are named c' and v'
pub start_test : {P : Type 0} (may p c v c' v' : Bool) → c ≡ c' → v ≡ v' → (may ≡ true) ↔ P → ((may && ((p && c) || v)) ≡ true) ↔ (P × (((p ≡ true) × (c' ≡ true)) ⊎ (v' ≡ true)))
start_test may p c v c' v' ec ev t = (
  λ e.
      let parts = and_parts may ((p && c) || v) e in
      (t.0 parts.0, elim (or_cases (p && c) v parts.1) [ inl x ↦ inl ((and_parts p c x).0, sym ec ∙ (and_parts p c x).1) | inr y ↦ inr (sym ev ∙ y) ]),
  λ q. and_from may ((p && c) || v) (t.1 q.0) (elim q.1 [ inl x ↦ or_left (p && c) v (and_from p c x.0 (ec ∙ x.1)) | inr y ↦ or_right (p && c) v (ev ∙ y) ]),
)

pub both_test : {P : Type 0} (may f : Bool) → (may ≡ true) ↔ P → ((may && f) ≡ true) ↔ (P × (f ≡ true))
both_test may f t = (λ e. (t.0 (and_parts may f e).0, (and_parts may f e).1), λ q. and_from may f (t.1 q.0) q.1)

pub common_is : (kind : ExportsKind) → is_common kind ≡ true → kind ≡ CommonJs
common_is Unknown e = let z : ◌≡◌ {A = ℕ} 0 1 = cc in absurd (omega arith)
common_is Esm e = let z : ◌≡◌ {A = ℕ} 0 1 = cc in absurd (omega arith)
common_is CommonJs e = refl

pub module_cases : (d : Module) → (d ≡ External) ⊎ ((n : NormalModule) × (d ≡ Normal n))
module_cases External = inl refl
module_cases (Normal n) = inr (n, refl)

pub normal_is : (d : Module) → is_normal d ≡ true → (n : NormalModule) × (d ≡ Normal n)
normal_is External e = let z : ◌≡◌ {A = ℕ} 0 1 = cc in absurd (omega arith)
normal_is (Normal n) e = (n, refl)
