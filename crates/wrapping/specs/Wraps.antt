-- What the parts of the wrap pass do.
--
--   MayWrap      a normal module but the runtime
--   is_common    the CommonJS kind
--   Starts       where wrapping starts, given which modules records point to
--   WrappedRow   how a row is written back
use Rattle.std.specs.Prelude.{◌≡◌, ℕ, Bool, true, false, ◌||◌, ◌⊎◌, ◌↔◌, List}
use Rattle.source.specs.declared.ExportsKind.{ExportsKind}
use Rattle.source.specs.declared.ExportsKind.TheVariants.{None as Unknown, Esm, CommonJs}
use Rattle.source.specs.Meaning.{Meaning}
use Rattle.marks.specs.declared.rows.MarkRow.{MarkRow}
use Rattle.marks.specs.Rules.{read_row, marked_row, with_required, is_wrapped}
use Rattle.marks.specs.Records.{NormalAt}
use Rattle.marks.specs.Rows.{kind_in, wrapped_in}
use Rattle.spread.specs.declared.yes_no.YesNo.{YesNo}
use Rattle.ways.specs.Targets.{flag}

pub record MayWrap (w : Meaning) (m : ℕ) : Type 0 where
  pub normal : NormalAt w m
  pub no_runtime : m ≡ w.runtime → ⊥

abbrev pub is_common : ExportsKind → Bool
is_common Unknown = false
is_common Esm = false
is_common CommonJs = true

abbrev pub Starts : Meaning → List MarkRow → List YesNo → ℕ → Type 0
Starts w rows pointed m = MayWrap w m × (((flag pointed m ≡ true) × (is_common (kind_in rows m) ≡ true)) ⊎ (wrapped_in rows m ≡ true))

pub record WrappedRow (w : Meaning) (facts required : List YesNo) (m : ℕ) (old new : MarkRow) : Type 0 where
  pub reached : Bool
  pub when : (reached ≡ true) ↔ (MayWrap w m × (flag facts m ≡ true))
  pub row : new ≡ with_required (marked_row (read_row old) old.kind (is_wrapped (read_row old).wrap || reached)) (old.required || flag required m)
