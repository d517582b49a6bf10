-- Flags at the targets of records.
--
--   flag          a module's flag; no past the last
--   is_normal, is_require   tests of a module and of a kind
--   picked        whether a record of module m to module t raises the flag there; `from` says yes of some importers
--   Picked        a record of a to t is one that is picked
--   PointedAt     flags are raised at the targets of records that are picked, and nowhere else
--   Cleared       the flags of the first n modules are no
--   Filled        the flags of the first n modules are yes exactly where P holds
use Rattle.std.specs.Prelude.{◌≡◌, ℕ, ◌<◌, Bool, true, false, not, ◌&&◌, ◌||◌, ◌↔◌, List, length, ◌==◌, slice_index_or}
use Rattle.source.specs.declared.ImportKind.{ImportKind}
use Rattle.source.specs.declared.ImportKind.TheVariants.{Import, Require, DynamicImport, AtImport, UrlImport, NewUrl, HotAccept}
use Rattle.source.specs.declared.ImportRecord.{ImportRecord}
use Rattle.source.specs.declared.Module.{Module}
use Rattle.source.specs.declared.Module.TheVariants.{External, Normal}
use Rattle.source.specs.Meaning.{Meaning, module_at, record_at}
use Rattle.marks.specs.Records.{Points}
use Rattle.marks.specs.Rows.{Raised}
use Rattle.spread.specs.declared.yes_no.YesNo.{YesNo}
use Rattle.spread.specs.Kinds.{plain_no}
use Rattle.ways.specs.declared.targets.Pick.{Pick}
use Rattle.ways.specs.declared.targets.Pick.TheVariants.{Every, Stars, Required}

abbrev pub flag : List YesNo → ℕ → Bool
flag flags m = (slice_index_or flags m plain_no).0

abbrev pub is_normal : Module → Bool
is_normal External = false
is_normal (Normal n) = true

abbrev pub is_require : ImportKind → Bool
is_require Import = false
is_require Require = true
is_require DynamicImport = false
is_require AtImport = false
is_require UrlImport = false
is_require NewUrl = false
is_require HotAccept = false

abbrev pub picked : Pick → Meaning → (ℕ → Bool) → ℕ → ImportRecord → ℕ → Bool
picked Every w from m r t = true
picked Stars w from m r t = r.star
picked Required w from m r t = is_require r.kind && (is_normal (module_at w t) || (not (m == w.runtime) && from m))

pub record Picked (pick : Pick) (w : Meaning) (from : ℕ → Bool) (a j t : ℕ) : Type 0 where
  pub kind : ImportKind
  pub points : Points w a j kind t
  pub by : picked pick w from a (record_at w a j) t ≡ true

pub record PointedAt (pick : Pick) (w : Meaning) (from : ℕ → Bool) (old new : List YesNo) : Type 0 where
  pub long : length new ≡ length old
  pub raised : (t : ℕ) → Raised ((a : ℕ) × (j : ℕ) × Picked pick w from a j t) (flag old t) (flag new t)

pub record Cleared (n : ℕ) (old new : List YesNo) : Type 0 where
  pub long : length new ≡ length old
  pub clear : (m : ℕ) → m < n → flag new m ≡ false

abbrev pub Filled : ℕ → (ℕ → Type 0) → List YesNo → Type 0
Filled n P flags = (m : ℕ) → m < n → (flag flags m ≡ true) ↔ P m
