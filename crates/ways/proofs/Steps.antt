-- The steps of each way are the relations on records that passes are stated in, and what a yes comes from along them.
-- Assumes nothing.
use Rattle.std.proofs.Common.{◌≡◌, ℕ, ◌<◌, true, ◌⊎◌, List, length, refl, ap, inl, inr, arith}
use Rattle.std.proofs.lemmas.Bool.{not-true, eqb-false, ne_eqb, not_from_false}
use Rattle.source.specs.declared.ImportKind.{ImportKind}
use Rattle.source.specs.declared.ImportKind.TheVariants.{Import, Require, DynamicImport, AtImport, UrlImport, NewUrl, HotAccept}
use Rattle.source.specs.Meaning.{Meaning, record_at}
use Rattle.marks.specs.Records.{Points, Imports, LeadsOn}
use Rattle.marks.specs.Records as records
use Rattle.marks.specs.Passes.{Brings}
use Rattle.spread.specs.declared.yes_no.YesNo.{YesNo}
use Rattle.spread.specs.Kinds.{plain_no, either}
use Rattle.spread.proofs.YesNos.{yes_from, yes_to}
use Rattle.ways.specs.declared.Way.{Way}
use Rattle.ways.specs.declared.Way.TheVariants.{Stars, Wrappers, Awaits, Entries}
use Rattle.ways.specs.Ways.{is_import, brings, Step, Leading, Carried}
use Rattle.ways.specs.Targets.{flag}

module _ (w : Meaning) (a b : ℕ) where
  pub stars_to : Step Stars w a b → records.Stars w a b
  stars_to s = (s.0, s.1, s.2.on, s.2.points)

  pub stars_from : records.Stars w a b → Step Stars w a b
  stars_from s = (s.0, s.1, record { points = s.3; on = s.2 })

  pub wrappers_to : Step Wrappers w a b → LeadsOn w a b
  wrappers_to s = (λ e. eqb-false a w.runtime (not-true _ s.2.on) e, (s.0, s.1, s.2.points))

  pub wrappers_from : LeadsOn w a b → Step Wrappers w a b
  wrappers_from s = (s.1.0, s.1.1, record { points = s.1.2; on = not_from_false _ (ne_eqb a w.runtime s.0) })

  import_is : (kind : ImportKind) → is_import kind ≡ true → kind ≡ Import
  import_is Import e = refl
  import_is Require e = let z : ◌≡◌ {A = ℕ} 0 1 = cc in absurd (omega arith)
  import_is DynamicImport e = let z : ◌≡◌ {A = ℕ} 0 1 = cc in absurd (omega arith)
  import_is AtImport e = let z : ◌≡◌ {A = ℕ} 0 1 = cc in absurd (omega arith)
  import_is UrlImport e = let z : ◌≡◌ {A = ℕ} 0 1 = cc in absurd (omega arith)
  import_is NewUrl e = let z : ◌≡◌ {A = ℕ} 0 1 = cc in absurd (omega arith)
  import_is HotAccept e = let z : ◌≡◌ {A = ℕ} 0 1 = cc in absurd (omega arith)

  brings_is : (kind : ImportKind) → brings kind ≡ true → (kind ≡ Import) ⊎ (kind ≡ Require)
  brings_is Import e = inl refl
  brings_is Require e = inr refl
  brings_is DynamicImport e = let z : ◌≡◌ {A = ℕ} 0 1 = cc in absurd (omega arith)
  brings_is AtImport e = let z : ◌≡◌ {A = ℕ} 0 1 = cc in absurd (omega arith)
  brings_is UrlImport e = let z : ◌≡◌ {A = ℕ} 0 1 = cc in absurd (omega arith)
  brings_is NewUrl e = let z : ◌≡◌ {A = ℕ} 0 1 = cc in absurd (omega arith)
  brings_is HotAccept e = let z : ◌≡◌ {A = ℕ} 0 1 = cc in absurd (omega arith)

  as_kind : (k : ℕ) (kind other : ImportKind) → Points w a k kind b → (record_at w a k).kind ≡ other → Points w a k other b
  as_kind k kind other p e = record { importer = p.importer; by = e; to = p.to }

  pub awaits_to : Step Awaits w a b → Imports w a b
  awaits_to s = (s.0, as_kind s.0 s.1 Import s.2.points (import_is _ s.2.on))

  pub awaits_from : Imports w a b → Step Awaits w a b
  awaits_from s = (s.0, Import, record { points = s.1; on = ap is_import s.1.by })

  pub entries_to : Step Entries w a b → Brings w a b
  entries_to s = elim (brings_is _ s.2.on) [
    | inl e ↦ inl (s.0, as_kind s.0 s.1 Import s.2.points e)
    | inr e ↦ inr (s.0, as_kind s.0 s.1 Require s.2.points e)
  ]

  pub entries_from : Brings w a b → Step Entries w a b
  entries_from (inl s) = (s.0, Import, record { points = s.1; on = ap brings s.1.by })
  entries_from (inr s) = (s.0, Require, record { points = s.1; on = ap brings s.1.by })

-- a yes comes from a start that leads there
module _ (way : Way) (w : Meaning) (old new : List YesNo) (c : Carried plain_no either way w old new) where
  pub carried_from : (p : ℕ) → p < length old → flag new p ≡ true → (q : ℕ) × Leading way w q p × (flag old q ≡ true)
  carried_from p h e = let f = yes_from c.rows old new c.spread p h e in (f.0, (c.leads f.0 p).0 f.1, f.2)

  pub carried_to : (q p : ℕ) → p < length old → Leading way w q p → flag old q ≡ true → flag new p ≡ true
  carried_to q p h l e = yes_to c.rows old new c.spread q p h ((c.leads q p).1 l) e
