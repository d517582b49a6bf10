-- What a look tells of a record, and where modules and records end. Assumes nothing.
use Rattle.std.proofs.Common.{◌≡◌, ℕ, ◌<◌, ◌≤◌, true, Some, None, Option, sym, ap, ◌∙◌, inl, inr, arith}
use mathlib.Core.Bool.{false≢true}
use Rattle.std.proofs.lemmas.List.{get_or_past}
use Rattle.std.proofs.lemmas.Bool.{cases_lt}
use Rattle.source.specs.declared.ImportKind.{ImportKind}
use Rattle.source.specs.declared.ImportRecord.{ImportRecord}
use Rattle.source.specs.declared.Module.TheVariants.{External, Normal}
use Rattle.source.specs.declared.NormalModule.{NormalModule}
use Rattle.source.specs.Meaning.{Meaning, Scanned, count_of, records_of, records_in, record_at, look_at, past_modules, past_records}
use Rattle.marks.specs.Records.{NormalAt, ExternalAt, Points, Leads, here, along}

pub none_some : {X : Type 0} (x : X) → None ≡ Some x → ⊥
none_some x e = let z : ◌≡◌ {A = ℕ} 0 1 = cc in omega arith

pub some_is : {X : Type 0} (o : Option X) (x y : X) → o ≡ Some x → o ≡ Some y → x ≡ y
some_is o x y e f = cc

pub external_normal : (n : NormalModule) → External ≡ Normal n → ⊥
external_normal n e = let z : ◌≡◌ {A = ℕ} 0 1 = cc in omega arith

pub past_external : (w : Meaning) (m : ℕ) → count_of w ≤ m → ExternalAt w m
past_external w m ge = ap (λ (s : Scanned). s.described) (get_or_past w.modules m past_modules ge)

pub normal_below : (w : Meaning) (m : ℕ) → NormalAt w m → m < count_of w
normal_below w m h = elim (cases_lt m (count_of w)) [ inl lt ↦ lt | inr ge ↦ absurd (external_normal h.0 (sym (past_external w m ge) ∙ h.1)) ]

pub points_in : (w : Meaning) (m k t : ℕ) (kind : ImportKind) → Points w m k kind t → k < records_in w m
points_in w m k t kind p = elim (cases_lt k (records_in w m)) [
  | inl lt ↦ lt
  | inr ge ↦ absurd (none_some t (sym (ap (λ (r : ImportRecord). r.target) (get_or_past (records_of w m) k past_records ge)) ∙ p.to))
]

pub star_in : (w : Meaning) (m k : ℕ) → (record_at w m k).star ≡ true → k < records_in w m
star_in w m k e = elim (cases_lt k (records_in w m)) [
  | inl lt ↦ lt
  | inr ge ↦ absurd (false≢true (sym (ap (λ (r : ImportRecord). r.star) (get_or_past (records_of w m) k past_records ge)) ∙ e))
]

module _ (w : Meaning) (m k : ℕ) (x : ImportKind × Option ℕ) (looked : x ≡ look_at w m k) where
  pub kind_looked : x.0 ≡ (record_at w m k).kind
  kind_looked = ap (λ (y : ImportKind × Option ℕ). y.0) looked

  pub target_looked : x.1 ≡ (record_at w m k).target
  target_looked = ap (λ (y : ImportKind × Option ℕ). y.1) looked

  pub look_points : (t : ℕ) → NormalAt w m → x.1 ≡ Some t → Points w m k x.0 t
  look_points t n e = record { importer = n; by = sym kind_looked; to = sym target_looked ∙ e }

  pub look_target : (t : ℕ) (kind : ImportKind) → Points w m k kind t → x.1 ≡ Some t
  look_target t kind p = target_looked ∙ p.to

  pub look_kind : (t : ℕ) (kind : ImportKind) → Points w m k kind t → x.0 ≡ kind
  look_kind t kind p = kind_looked ∙ p.by

-- a path can also be followed from its first step, and turned round
pub leads_first : {R : ℕ → ℕ → Type 0} {q a p : ℕ} → R q a → Leads R a p → Leads R q p
leads_first r here = along r here
leads_first r (along s l) = along s (leads_first r l)

pub leads_back : {R S : ℕ → ℕ → Type 0} → ((a b : ℕ) → R a b → S b a) → {q p : ℕ} → Leads R q p → Leads S p q
leads_back f here = here
leads_back f (along {a} {b} r l) = leads_first (f a b r) (leads_back f l)

pub leads_as : {R S : ℕ → ℕ → Type 0} → ((a b : ℕ) → R a b → S a b) → {q p : ℕ} → Leads R q p → Leads S q p
leads_as f here = here
leads_as f (along {a} {b} r l) = along (f a b r) (leads_as f l)

pub leads_trans : {R : ℕ → ℕ → Type 0} {a b c : ℕ} → Leads R a b → Leads R b c → Leads R a c
leads_trans l here = l
leads_trans l (along r m) = along r (leads_trans l m)
