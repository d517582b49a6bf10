-- What the parts of the star pass do.
--
--   open_end, OpenAt   an external or CommonJS module, as a test and as a fact
--   Starred            facts say yes, and the module has a star record or is the target of one
--   StarredRow         how a row is written back
use Rattle.std.specs.Prelude.{◌≡◌, ℕ, Bool, true, false, ◌||◌, ◌⊎◌, ◌↔◌, List}
use Rattle.source.specs.declared.ExportsKind.{ExportsKind}
use Rattle.source.specs.declared.ExportsKind.TheVariants.{None as Unknown, Esm, CommonJs}
use Rattle.source.specs.declared.Module.{Module}
use Rattle.source.specs.declared.Module.TheVariants.{External, Normal}
use Rattle.source.specs.Meaning.{Meaning}
use Rattle.marks.specs.declared.rows.MarkRow.{MarkRow}
use Rattle.marks.specs.Rules.{read_row, with_dynamic}
use Rattle.marks.specs.Records.{ExternalAt, HasStar}
use Rattle.marks.specs.Rows.{kind_in}
use Rattle.spread.specs.declared.yes_no.YesNo.{YesNo}
use Rattle.ways.specs.Targets.{flag}

abbrev pub open_end : Module → ExportsKind → Bool
open_end External kind = true
open_end (Normal n) Unknown = false
open_end (Normal n) Esm = false
open_end (Normal n) CommonJs = true

abbrev pub OpenAt : Meaning → List MarkRow → ℕ → Type 0
OpenAt w rows m = ExternalAt w m ⊎ (kind_in rows m ≡ CommonJs)

abbrev pub Starred : Meaning → List YesNo → List YesNo → ℕ → Type 0
Starred w facts targets m = (flag facts m ≡ true) × ((flag targets m ≡ true) ⊎ HasStar w m)

pub record StarredRow (w : Meaning) (facts targets : List YesNo) (m : ℕ) (old new : MarkRow) : Type 0 where
  pub dynamic : Bool
  pub when : (dynamic ≡ true) ↔ Starred w facts targets m
  pub row : new ≡ with_dynamic (read_row old) (old.dynamic || dynamic)
