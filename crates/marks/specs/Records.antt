-- Which module points to which, and by what kind of record.
--
--   NormalAt, ExternalAt          what stands at a number
--   Points                        a record of a normal module has this kind, and is resolved to that module
--   Mentions, Imports, Requires   some record of a normal module is resolved to that one: of any kind; an `Import`; a `Require`
--   acts_as_require               `Require`, or `DynamicImport` while splitting is off
--   ActsRequiring                 some record that acts so is resolved to that module
--   HasStar, Stars                a normal module has a star record; one that is resolved to that module
--   LeadsOn                       records that lead on from a normal module but the runtime
--   Leads                         a module leads to itself, and wherever a path of such steps runs from it
use Rattle.std.specs.Prelude.{◌≡◌, ℕ, Bool, true, false, Some, ◌≢◌}
use Rattle.source.specs.declared.ImportKind.{ImportKind}
use Rattle.source.specs.declared.ImportKind.TheVariants.{Import, Require, DynamicImport, AtImport, UrlImport, NewUrl, HotAccept}
use Rattle.source.specs.declared.Module.TheVariants.{External, Normal}
use Rattle.source.specs.declared.NormalModule.{NormalModule}
use Rattle.source.specs.Meaning.{Meaning, module_at, record_at}
use Rattle.marks.specs.declared.options.LinkOptions.{LinkOptions}

abbrev pub NormalAt : Meaning → ℕ → Type 0
NormalAt w m = (n : NormalModule) × (module_at w m ≡ Normal n)

abbrev pub ExternalAt : Meaning → ℕ → Type 0
ExternalAt w m = module_at w m ≡ External

-- record k of the normal module m has this kind, and is resolved to t
pub record Points (w : Meaning) (m k : ℕ) (kind : ImportKind) (t : ℕ) : Type 0 where
  pub importer : NormalAt w m
  pub by : (record_at w m k).kind ≡ kind
  pub to : (record_at w m k).target ≡ Some t

-- some record of the normal module m is resolved to t: of any kind; an `Import`; a `Require`
abbrev pub Mentions : Meaning → ℕ → ℕ → Type 0
Mentions w m t = (k : ℕ) × (kind : ImportKind) × Points w m k kind t

abbrev pub Imports : Meaning → ℕ → ℕ → Type 0
Imports w m t = (k : ℕ) × Points w m k Import t

abbrev pub Requires : Meaning → ℕ → ℕ → Type 0
Requires w m t = (k : ℕ) × Points w m k Require t

-- `Require`, or `DynamicImport` with splitting off
abbrev pub acts_as_require : LinkOptions → ImportKind → Bool
acts_as_require o Import = false
acts_as_require o Require = true
acts_as_require o DynamicImport = o.splitting_off
acts_as_require o AtImport = false
acts_as_require o UrlImport = false
acts_as_require o NewUrl = false
acts_as_require o HotAccept = false

abbrev pub ActsRequiring : Meaning → LinkOptions → ℕ → ℕ → Type 0
ActsRequiring w o m t = (k : ℕ) × (kind : ImportKind) × (acts_as_require o kind ≡ true) × Points w m k kind t

-- star records: with and without a target
abbrev pub HasStar : Meaning → ℕ → Type 0
HasStar w m = NormalAt w m × ((k : ℕ) × ((record_at w m k).star ≡ true))

abbrev pub Stars : Meaning → ℕ → ℕ → Type 0
Stars w m t = (k : ℕ) × (kind : ImportKind) × ((record_at w m k).star ≡ true) × Points w m k kind t

-- resolved records of every kind lead on from normal modules but the runtime
abbrev pub LeadsOn : Meaning → ℕ → ℕ → Type 0
LeadsOn w m t = (m ≢ w.runtime) × Mentions w m t

-- a place leads to itself, and to what the relation goes to from a place that it leads to
pub data Leads (R : ℕ → ℕ → Type 0) (q : ℕ) : ℕ → Type 0 where
  here : Leads R q q
  along : {a b : ℕ} → R a b → Leads R q a → Leads R q b
