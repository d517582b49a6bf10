-- The targets of a module's imports, one by one. Assumes nothing.
use Rattle.std.proofs.Common.{◌≡◌, ℕ, zero, suc, ◌<◌, Bool, true, false, List, [], ◌∷◌, ◌++◌, length, get_or, Some, None, Option, sym, refl, ap, ◌∙◌, subst, inl, inr, arith}
use Rattle.std.proofs.ByRecursion.{All-weaker}
use Rattle.std.proofs.lemmas.List.{get_or_past}
use Rattle.std.proofs.lemmas.Bool.{cases_lt}
use Rattle.std.specs.List.{AllByRecursion}
use Rattle.source.specs.declared.ImportKind.TheVariants.{Import}
use Rattle.source.specs.declared.ImportRecord.{ImportRecord}
use Rattle.source.specs.declared.Module.{Module}
use Rattle.source.specs.declared.Module.TheVariants.{External, Normal}
use Rattle.source.specs.declared.NormalModule.{NormalModule}
use Rattle.source.specs.Meaning.{Meaning, Proper, count_of, module_at, records_of, records_in, record_at, past_records}
use Rattle.marks.specs.Records.{NormalAt, Imports, Leads, along}
use Rattle.marks.proofs.Records.{none_some}
use Rattle.ways.specs.Ways.{is_import, Targets}
use Rattle.ways.proofs.Steps.{awaits_to}
use Rattle.tla.specs.Search.{led_to, imports_in, imports_of}

-- a record's targets, before those of other records
module _ (P : ℕ → Type 0) where
  led_each : (b : Bool) (target : Option ℕ) (ts : List ℕ) → ((t : ℕ) → b ≡ true → target ≡ Some t → P t) → AllByRecursion P ts → AllByRecursion P (led_to b target ++ ts)
  led_each true None ts here all = all
  led_each true (Some t) ts here all = (here t refl refl, all)
  led_each false target ts here all = all

  led_first : (b : Bool) (target : Option ℕ) (ts : List ℕ) (t : ℕ) → b ≡ true → target ≡ Some t → AllByRecursion P (led_to b target ++ ts) → P t
  led_first true None ts t e f all = absurd (none_some t f)
  led_first true (Some y) ts t e f all = subst P (let is : y ≡ t = cc in is) all.0
  led_first false target ts t e f all = let z : ◌≡◌ {A = ℕ} 0 1 = cc in absurd (omega arith)

  led_rest : (b : Bool) (target : Option ℕ) (ts : List ℕ) → AllByRecursion P (led_to b target ++ ts) → AllByRecursion P ts
  led_rest true None ts all = all
  led_rest true (Some y) ts all = all.1
  led_rest false target ts all = all

  each_import : (rs : List ImportRecord) → ((k t : ℕ) → is_import (get_or rs k past_records).kind ≡ true → (get_or rs k past_records).target ≡ Some t → P t) → AllByRecursion P (imports_in rs)
  each_import [] here = tt
  each_import (r ∷ rs) here = led_each (is_import r.kind) r.target (imports_in rs) (here 0) (each_import rs (λ k. here (suc k)))

  an_import : (rs : List ImportRecord) (k t : ℕ) → is_import (get_or rs k past_records).kind ≡ true → (get_or rs k past_records).target ≡ Some t → AllByRecursion P (imports_in rs) → P t
  an_import [] k t e f all = absurd (none_some t f)
  an_import (r ∷ rs) zero t e f all = led_first (is_import r.kind) r.target (imports_in rs) t e f all
  an_import (r ∷ rs) (suc k) t e f all = an_import rs k t e f (led_rest (is_import r.kind) r.target (imports_in rs) all)

  pub of_import : (w : Meaning) (a b : ℕ) → Imports w a b → AllByRecursion P (imports_of w a) → P b
  of_import w a b i all = an_import (records_of w a) i.0 b (ap is_import i.1.by) i.1.to all

-- only a normal module has records
normal_or_blank : (x : Module) (rs : List ImportRecord) (k : ℕ) → (x ≡ External → rs ≡ []) → k < length rs → (n : NormalModule) × (x ≡ Normal n)
normal_or_blank External rs k blank h = let none = ap (λ (ys : List ImportRecord). length ys) (blank refl) in absurd (omega (arith, none))
normal_or_blank (Normal n) rs k blank h = (n, refl)

module _ (w : Meaning) (proper : Proper w) where
  pub has_records : (m k : ℕ) → k < records_in w m → NormalAt w m
  has_records m k h = normal_or_blank (module_at w m) (records_of w m) k (proper.blank m) h

  pub resolved_in : (m k t : ℕ) → (record_at w m k).target ≡ Some t → k < records_in w m
  resolved_in m k t e = elim (cases_lt k (records_in w m)) [
    | inl lt ↦ lt
    | inr ge ↦ absurd (none_some t (sym (ap (λ (r : ImportRecord). r.target) (get_or_past (records_of w m) k past_records ge)) ∙ e))
  ]

  pub each_imported : (m : ℕ) → AllByRecursion (Imports w m) (imports_of w m)
  each_imported m = each_import (Imports w m) (records_of w m) (λ k t e f.
      awaits_to w m t (k, (record_at w m k).kind, record { points = record { importer = has_records m k (resolved_in m k t f); by = refl; to = f }; on = e }))

  pub imports_led : (q m : ℕ) → Leads (Imports w) q m → AllByRecursion (Leads (Imports w) q) (imports_of w m)
  imports_led q m l = All-weaker (Imports w m) (Leads (Imports w) q) (λ t i. along i l) (imports_of w m) (each_imported m)

  pub imports_inside : Targets w → (m : ℕ) → AllByRecursion (λ t. t < count_of w) (imports_of w m)
  imports_inside targets m = All-weaker (Imports w m) (λ t. t < count_of w) (λ t i. targets m t (i.0, Import, i.1)) (imports_of w m) (each_imported m)
