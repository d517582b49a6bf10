-- Which records lead on, and what facts come to along them.
--
--   is_import, brings   an `Import`; an `Import` or a `Require`
--   followed            whether a record of module m leads on
--   Step                a record of a leads on and is resolved to b
--   against             whether facts go from a record's target to its module, and not with it
--   Leading             a place leads to a place, in the direction that facts go
--   drawn               the arrow of a record from a to t
--   Targets             every target is a module
--   Copied              the first n arrows are those of the records that lead on
--   Carried             what spreading along the records comes to
use Rattle.std.specs.Prelude.{◌≡◌, ℕ, ◌<◌, ◌≤◌, Bool, true, false, not, ◌↔◌, List, length, ◌==◌, slice_index_or}
use Rattle.source.specs.declared.ImportKind.{ImportKind}
use Rattle.source.specs.declared.ImportKind.TheVariants.{Import, Require, DynamicImport, AtImport, UrlImport, NewUrl, HotAccept}
use Rattle.source.specs.declared.ImportRecord.{ImportRecord}
use Rattle.source.specs.Meaning.{Meaning, count_of, record_at}
use Rattle.marks.specs.Records.{Points, Mentions, Leads}
use Rattle.spread.specs.declared.arrow.Arrow.{Arrow}
use Rattle.spread.specs.Leads.{no_arrow}
use Rattle.spread.specs.Leads as arrows
use Rattle.spread.specs.Spread.{Spread}
use Rattle.ways.specs.declared.Way.{Way}
use Rattle.ways.specs.declared.Way.TheVariants.{Stars, Wrappers, Awaits, Entries}

abbrev pub is_import : ImportKind → Bool
is_import Import = true
is_import Require = false
is_import DynamicImport = false
is_import AtImport = false
is_import UrlImport = false
is_import NewUrl = false
is_import HotAccept = false

abbrev pub brings : ImportKind → Bool
brings Import = true
brings Require = true
brings DynamicImport = false
brings AtImport = false
brings UrlImport = false
brings NewUrl = false
brings HotAccept = false

abbrev pub followed : Way → Meaning → ℕ → ImportRecord → Bool
followed Stars w m r = r.star
followed Wrappers w m r = not (m == w.runtime)
followed Awaits w m r = is_import r.kind
followed Entries w m r = brings r.kind

pub record Leaving (way : Way) (w : Meaning) (a k : ℕ) (kind : ImportKind) (b : ℕ) : Type 0 where
  pub points : Points w a k kind b
  pub on : followed way w a (record_at w a k) ≡ true

abbrev pub Step : Way → Meaning → ℕ → ℕ → Type 0
Step way w a b = (k : ℕ) × (kind : ImportKind) × Leaving way w a k kind b

abbrev pub against : Way → Bool
against Stars = true
against Wrappers = false
against Awaits = true
against Entries = false

abbrev pub led : Bool → (ℕ → ℕ → Type 0) → ℕ → ℕ → Type 0
led true R q p = Leads R p q
led false R q p = Leads R q p

abbrev pub Leading : Way → Meaning → ℕ → ℕ → Type 0
Leading way w q p = led (against way) (Step way w) q p

abbrev pub turned : Bool → ℕ → ℕ → Arrow
turned true a t = record { from = t; to = a }
turned false a t = record { from = a; to = t }

abbrev pub drawn : Way → ℕ → ℕ → Arrow
drawn way a t = turned (against way) a t

abbrev pub Targets : Meaning → Type 0
Targets w = (m t : ℕ) → Mentions w m t → t < count_of w

-- the records that are copied so far are those in Done
pub record CopiedUpTo (Done : ℕ → ℕ → Type 0) (way : Way) (w : Meaning) (rows : List Arrow) (n : ℕ) : Type 0 where
  pub sound : (i : ℕ) → i < n → (a : ℕ) × (t : ℕ) × Step way w a t × (slice_index_or rows i no_arrow ≡ drawn way a t)
  pub full : (a j t : ℕ) (kind : ImportKind) → Done a j → Leaving way w a j kind t → (i : ℕ) × (i < n) × (slice_index_or rows i no_arrow ≡ drawn way a t)

abbrev pub All : ℕ → ℕ → Type 0
All a j = Unit {0}

pub record Copied (way : Way) (w : Meaning) (rows : List Arrow) (n : ℕ) : Type 0 where
  pub fits : n ≤ length rows
  pub all : CopiedUpTo All way w rows n

-- the facts have spread along some rows of arrows that lead just where the records do
pub record Carried {F : Type 0} (zero : F) (join : F → F → F) (way : Way) (w : Meaning) (old new : List F) : Type 0 where
  pub rows : List Arrow
  pub spread : Spread zero join rows old new
  pub leads : (q p : ℕ) → arrows.Leads rows q p ↔ Leading way w q p
