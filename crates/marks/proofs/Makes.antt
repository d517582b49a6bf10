-- Kinds that give way to others, and what makes a module CommonJS. Assumes nothing.
use Rattle.std.proofs.Common.{◌≡◌, ℕ, Bool, true, false, cond, ◌⊎◌, Some, None, Option, refl, ap, inl, inr, arith}
use mathlib.Core.Bool.{false≢true}
use Rattle.std.proofs.lemmas.Bool.{eqb-true}
use Rattle.source.specs.declared.ImportKind.{ImportKind}
use Rattle.source.specs.declared.ImportKind.TheVariants.{Import, Require, DynamicImport, AtImport, UrlImport, NewUrl, HotAccept}
use Rattle.source.specs.declared.ExportsKind.{ExportsKind}
use Rattle.source.specs.declared.ExportsKind.TheVariants.{None as Unknown, Esm, CommonJs}
use Rattle.source.specs.declared.NormalModule.{NormalModule}
use Rattle.marks.specs.declared.options.LinkOptions.{LinkOptions}
use Rattle.marks.specs.Records.{acts_as_require}
use Rattle.marks.specs.Kinds.{or_else, makes, is_target}

pub unknown_common : Unknown ≡ CommonJs → ⊥
unknown_common e = let z : ◌≡◌ {A = ℕ} 0 1 = cc in omega arith

pub esm_common : Esm ≡ CommonJs → ⊥
esm_common e = let z : ◌≡◌ {A = ℕ} 0 1 = cc in omega arith

-- where it ends CommonJS it began so, or was made so
pub or_else_common : (kind made : ExportsKind) → or_else kind made ≡ CommonJs → (kind ≡ CommonJs) ⊎ (made ≡ CommonJs)
or_else_common Unknown made e = inr e
or_else_common Esm made e = absurd (esm_common e)
or_else_common CommonJs made e = inl refl

lazy_common : (lazy : Bool) → cond lazy Unknown Esm ≡ CommonJs → ⊥
lazy_common true e = unknown_common e
lazy_common false e = esm_common e

splitting_common : (off : Bool) → cond off CommonJs Unknown ≡ CommonJs → off ≡ true
splitting_common true e = refl
splitting_common false e = absurd (unknown_common e)

-- what makes a module CommonJS also requires it
pub makes_common : (o : LinkOptions) (n : NormalModule) (kind : ImportKind) → makes o n kind ≡ CommonJs → acts_as_require o kind ≡ true
makes_common o n Import e = absurd (lazy_common n.lazy_export e)
makes_common o n Require e = refl
makes_common o n DynamicImport e = splitting_common o.splitting_off e
makes_common o n AtImport e = absurd (unknown_common e)
makes_common o n UrlImport e = absurd (unknown_common e)
makes_common o n NewUrl e = absurd (unknown_common e)
makes_common o n HotAccept e = absurd (unknown_common e)

pub target_is : (target : Option ℕ) (t : ℕ) → is_target target t ≡ true → target ≡ Some t
target_is None t e = absurd (false≢true e)
target_is (Some u) t e = ap Some (eqb-true u t e)
