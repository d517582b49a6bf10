-- Small facts of marks and kinds. Assumes nothing.
use Rattle.std.proofs.Common.{◌≡◌, ℕ, Bool, true, cond, ◌⊎◌, ◌↔◌, List, refl, ap, ◌∙◌, inl, inr}
use mathlib.Core.Bool.{false≢true}
use Rattle.source.specs.declared.ExportsKind.{ExportsKind}
use Rattle.source.specs.declared.ExportsKind.TheVariants.{None as Unknown, Esm, CommonJs}
use Rattle.marks.specs.declared.rows.MarkRow.{MarkRow}
use Rattle.marks.specs.declared.rows.WrapKind.{WrapKind}
use Rattle.marks.specs.declared.rows.WrapKind.TheVariants.{None as Unwrapped, Cjs as AsCjs, Esm as AsEsm}
use Rattle.marks.specs.Kinds.{or_else}
use Rattle.marks.specs.Rows.{row_at, kind_in, wrap_in, wrapped_in, Raised}
use Rattle.marks.specs.Rules.{is_wrapped, wrap_of, read_wrap}
use Rattle.marks.proofs.Writes.{reads_by_kind}

-- what has ripened ripens no further
pub or_else_twice : (kind made : ExportsKind) → or_else (or_else kind made) made ≡ or_else kind made
or_else_twice Unknown Unknown = refl
or_else_twice Unknown Esm = refl
or_else_twice Unknown CommonJs = refl
or_else_twice Esm made = refl
or_else_twice CommonJs made = refl

-- a row reads as wrapped by its kind, or as unwrapped
pub wrap_reads : (rows : List MarkRow) (m : ℕ) (kind : ExportsKind) (b : Bool) → kind_in rows m ≡ kind → wrapped_in rows m ≡ b → wrap_in rows m ≡ cond b (wrap_of kind) Unwrapped
wrap_reads rows m kind b k e = reads_by_kind (kind_in rows m) (row_at rows m).wrap ∙ ap (λ (v : Bool). cond v (wrap_of (kind_in rows m)) Unwrapped) e ∙ ap (λ (x : ExportsKind). cond b (wrap_of x) Unwrapped) k

-- and where it reads as wrapped it stands so
pub wraps_by_kind : (kind : ExportsKind) (wrap : WrapKind) → is_wrapped (read_wrap kind wrap) ≡ true → wrap ≡ wrap_of kind
wraps_by_kind Unknown Unwrapped e = absurd (false≢true e)
wraps_by_kind Esm Unwrapped e = absurd (false≢true e)
wraps_by_kind CommonJs Unwrapped e = absurd (false≢true e)
wraps_by_kind Unknown AsCjs e = absurd (false≢true e)
wraps_by_kind Esm AsCjs e = absurd (false≢true e)
wraps_by_kind CommonJs AsCjs e = refl
wraps_by_kind Unknown AsEsm e = refl
wraps_by_kind Esm AsEsm e = refl
wraps_by_kind CommonJs AsEsm e = absurd (false≢true e)

-- a raised flag is yes where it was yes, or where it was to be raised
pub raised_is : {P : Type 0} {old new : Bool} → Raised P old new → (new ≡ true) ↔ ((old ≡ true) ⊎ P)
raised_is r = (r.only, λ x. elim x [ inl e ↦ r.kept e | inr p ↦ r.made p ])
