-- The worked examples. Assumes nothing.
use Rattle.std.proofs.Common.{◌≡◌, ℕ, zero, suc, ◌+◌, ◌<◌, Bool, true, false, cond, not, ◌&&◌, ◌||◌, eqb, List, [], ◌∷◌, get_or, Some, None, Option, sym, refl, ap, ◌∙◌, subst, inl, inr, arith}
use mathlib.Core.Bool.{false≢true}
use Rattle.std.proofs.lemmas.Bool.{and_parts, and_from, or_left, or_right, eq-eqb}
use Rattle.source.specs.declared.ImportKind.{ImportKind}
use Rattle.source.specs.declared.ImportKind.TheVariants.{Import, Require}
use Rattle.source.specs.declared.ImportRecord.{ImportRecord}
use Rattle.source.specs.declared.ExportsKind.{ExportsKind}
use Rattle.source.specs.declared.ExportsKind.TheVariants.{None as Unknown, Esm, CommonJs}
use Rattle.source.specs.declared.Module.{Module}
use Rattle.source.specs.declared.Module.TheVariants.{External, Normal}
use Rattle.source.specs.declared.NormalModule.{NormalModule}
use Rattle.source.specs.Meaning.{Meaning, Scanned, count_of, module_at, scanned_at, records_of, record_at, past_modules, past_records}
use Rattle.marks.specs.declared.options.LinkOptions.{LinkOptions}
use Rattle.marks.specs.declared.options.OutputFormat.{OutputFormat}
use Rattle.marks.specs.declared.options.OutputFormat.TheVariants.{Cjs, Iife}
use Rattle.marks.specs.declared.rows.AwaitRow.{AwaitRow}
use Rattle.marks.specs.declared.rows.WrapKind.TheVariants.{None as Unwrapped, Cjs as AsCjs}
use Rattle.marks.specs.Records.{NormalAt, Points, LeadsOn, Leads, here, along, Imports, Stars, acts_as_require}
use Rattle.marks.specs.Rows.{wrapped_in, dynamic_in, awaiting_in}
use Rattle.marks.specs.Rules.{wrap_of}
use Rattle.marks.specs.Kinds.{settled_kind, format_wraps, importer_rule}
use Rattle.marks.specs.Passes.{Awaits}
use Rattle.marks.proofs.Records.{none_some, external_normal}
use Rattle.tla.specs.Awaiting.{has_await, AwaitAt}
use Rattle.tla.specs.Rows.{row_in, row_total, AwaitRows}
use Rattle.settled.specs.Settled.{Cause, MustWrap, MustOpen}
use Rattle.settled.specs.Settled as settled
use Rattle.settled.specs.Examples.{Worked, Reads, Finishes, normal, imported, imported_lazy, import_first, require_first, through_common, lone_entry, star_circle, await_circle}
use Rattle.settled.proofs.Facts.{wrap_reads}

-- a test of every record and of every module
abbrev all_records : (ImportRecord → Bool) → List ImportRecord → Bool
all_records p [] = true
all_records p (r ∷ rs) = p r && all_records p rs

abbrev all_modules : (ℕ → Scanned → Bool) → ℕ → List Scanned → Bool
all_modules p m [] = true
all_modules p m (s ∷ ss) = p m s && all_modules p (suc m) ss

record_holds : (p : ImportRecord → Bool) (rs : List ImportRecord) → all_records p rs ≡ true → (k t : ℕ) → (get_or rs k past_records).target ≡ Some t → p (get_or rs k past_records) ≡ true
record_holds p [] e k t f = absurd (none_some t f)
record_holds p (r ∷ rs) e zero t f = (and_parts (p r) (all_records p rs) e).0
record_holds p (r ∷ rs) e (suc k) t f = record_holds p rs (and_parts (p r) (all_records p rs) e).1 k t f

module_holds : (p : ℕ → Scanned → Bool) (ss : List Scanned) (first : ℕ) → all_modules p first ss ≡ true → (i : ℕ) (n : NormalModule) → (get_or ss i past_modules).described ≡ Normal n → p (i + first) (get_or ss i past_modules) ≡ true
module_holds p [] first e i n f = absurd (external_normal n f)
module_holds p (s ∷ ss) first e zero n f = subst (λ (j : ℕ). p j s ≡ true) (let z : first ≡ 0 + first = omega arith in z) (and_parts (p first s) (all_modules p (suc first) ss) e).0
module_holds p (s ∷ ss) first e (suc i) n f = subst (λ (j : ℕ). p j (get_or ss i past_modules) ≡ true) (let z : i + suc first ≡ suc i + first = omega arith in z) (module_holds p ss (suc first) (and_parts (p first s) (all_modules p (suc first) ss) e).1 i n f)

-- a set that holds the causes and is closed
abbrev is_common : ExportsKind → Bool
is_common Unknown = false
is_common Esm = false
is_common CommonJs = true

abbrev target_in : (ℕ → Bool) → Option ℕ → Bool
target_in S None = true
target_in S (Some t) = S t

abbrev target_common : Meaning → LinkOptions → Option ℕ → Bool
target_common w o None = false
target_common w o (Some t) = is_common (settled_kind w o t)

abbrev implies : Bool → Bool → Bool
implies true b = b
implies false b = true

abbrev rule_wraps : LinkOptions → Module → Bool
rule_wraps o External = false
rule_wraps o (Normal n) = is_common n.scanned && importer_rule o n

abbrev closed : Meaning → LinkOptions → (ℕ → Bool) → ℕ → Scanned → Bool
closed w o S m s = implies (rule_wraps o s.described) (S m) && all_records (λ r. implies (S m || (acts_as_require o r.kind || target_common w o r.target)) (target_in S r.target)) s.records

modus : (a b : Bool) → implies a b ≡ true → a ≡ true → b ≡ true
modus true b e f = e
modus false b e f = absurd (false≢true f)

module _ (w : Meaning) (o : LinkOptions) (S : ℕ → Bool) (good : all_modules (closed w o S) 0 w.modules ≡ true) where
  at_module : (m : ℕ) → NormalAt w m → closed w o S m (scanned_at w m) ≡ true
  at_module m n = subst (λ (j : ℕ). closed w o S j (scanned_at w m) ≡ true) (let z : m + 0 ≡ m = omega arith in z) (module_holds (closed w o S) w.modules 0 good m n.0 n.1)

  at_record : (m k t : ℕ) (kind : ImportKind) → Points w m k kind t → (S m || (acts_as_require o kind || is_common (settled_kind w o t))) ≡ true → S t ≡ true
  at_record m k t kind p e =
      let c = (and_parts (implies (rule_wraps o (module_at w m)) (S m)) _ (at_module m p.importer)).1 in
      let h = record_holds _ (records_of w m) c k t p.to in
      let q = subst (λ (x : Option ℕ). implies (S m || (acts_as_require o (record_at w m k).kind || target_common w o x)) (target_in S x) ≡ true) p.to h in
      modus _ (S t) (subst (λ (x : ImportKind). implies (S m || (acts_as_require o x || is_common (settled_kind w o t))) (S t) ≡ true) p.by q) e

  cause_in : (m : ℕ) → Cause w o m → S m ≡ true
  cause_in m (settled.required n {i} r) = at_record i r.0 m r.1 r.3 (or_right (S i) _ (or_left _ _ r.2))
  cause_in m (settled.importer n e c r) =
      modus (rule_wraps o (module_at w m)) (S m) (and_parts (implies (rule_wraps o (module_at w m)) (S m)) _ (at_module m (n, e))).0
      (ap (rule_wraps o) e ∙ and_from _ _ (ap is_common c) r)
  cause_in m (settled.target t) = at_record t.importer t.mentions.0 m t.mentions.1 t.mentions.2 (or_right (S t.importer) _ (or_right (acts_as_require o t.mentions.1) _ (ap is_common t.common)))

  leads_in : {a b : ℕ} → S a ≡ true → Leads (LeadsOn w) a b → S b ≡ true
  leads_in h here = h
  leads_in h (along {a} {b} l m) = at_record a l.1.0 b l.1.1 l.1.2 (or_left _ _ (leads_in h m))

  must_in : (m : ℕ) → MustWrap w o m → S m ≡ true
  must_in m r = leads_in (cause_in r.start r.starts) r.leads

not_yes : (b : Bool) → (b ≡ true → ⊥) → b ≡ false
not_yes true n = absurd (n refl)
not_yes false n = refl

module _ (w : Meaning) (o : LinkOptions) (m : ℕ) (h : m < count_of w) where
  reads_wrapped : MustWrap w o m → Reads w o m (settled_kind w o m) (wrap_of (settled_kind w o m))
  reads_wrapped must rows s = (s.kind m h, wrap_reads rows m (settled_kind w o m) true (s.kind m h) ((s.wrapped m h).1 must))

  reads_unwrapped : (MustWrap w o m → ⊥) → Reads w o m (settled_kind w o m) Unwrapped
  reads_unwrapped nor rows s = (s.kind m h, wrap_reads rows m (settled_kind w o m) false (s.kind m h) (not_yes (wrapped_in rows m) (λ e. nor ((s.wrapped m h).0 e))))

  -- what finish wraps besides
  finishes_wrapped : o.strict_order ≡ true → o.manual_groups ≡ true → NormalAt w m → settled_kind w o m ≡ CommonJs → Finishes w o m CommonJs AsCjs
  finishes_wrapped strict groups normal common rows left s d =
      let settles = s.kind m h ∙ common in
      let kind = d.kind m h ∙ settles in
      (kind, wrap_reads left m CommonJs true kind ((d.wrap m h).made (record { strict = strict; groups = groups; normal = normal; common = settles })))

points_at : (w : Meaning) (m k : ℕ) (kind : ImportKind) (t : ℕ) → NormalAt w m → (record_at w m k).kind ≡ kind → (record_at w m k).target ≡ Some t → Points w m k kind t
points_at w m k kind t n b e = record { importer = n; by = b; to = e }

-- no record has the target t
abbrev misses : ℕ → Option ℕ → Bool
misses t None = true
misses t (Some u) = not (eqb u t)

untargeted : (w : Meaning) (t : ℕ) → all_modules (λ m s. all_records (λ r. misses t r.target) s.records) 0 w.modules ≡ true → (m k : ℕ) (kind : ImportKind) → Points w m k kind t → ⊥
untargeted w t good m k kind p =
    let c = module_holds (λ m s. all_records (λ r. misses t r.target) s.records) w.modules 0 good m p.importer.0 p.importer.1 in
    let h = record_holds (λ r. misses t r.target) (records_of w m) c k t p.to in
    let q = subst (λ (x : Option ℕ). misses t x ≡ true) p.to h in
    false≢true (sym (ap not (eq-eqb t t refl)) ∙ q)

require_import : Require ≡ Import → ⊥
require_import e = let z : ◌≡◌ {A = ℕ} 0 1 = cc in omega arith

no_imports : (t k : ℕ) → Points await_circle 4 k Import t → ⊥
no_imports t zero p = require_import p.by
no_imports t (suc k) p = none_some t p.to

only_four : {t : ℕ} → Leads (Imports await_circle) 4 t → t ≡ 4
only_four here = refl
only_four (along {a} {b} r l) = absurd (no_imports b r.0 (subst (λ (x : ℕ). Points await_circle x r.0 Import b) (only_four l) r.1))

four_waits_not : Awaits await_circle 4 → ⊥
four_waits_not p =
    let q = subst (λ (x : ℕ). (n : NormalModule) × (module_at await_circle x ≡ Normal n) × (n.top_level_await ≡ true)) (only_four p.leads) p.waiting in
    false≢true (ap has_await q.1 ∙ q.2)

open_zero : (o : LinkOptions) → MustOpen star_circle o 0 → ⊥
open_zero o p = elim p.star [
  | inl h ↦ false≢true h.1.1
  | inr s ↦ untargeted star_circle 0 refl s.0 s.1.0 s.1.1 s.1.3
]

abbrev one_three : ℕ → Bool
one_three m = eqb m 1 || eqb m 3

module _ (o : LinkOptions) where
  required_import_first : MustWrap import_first o 1
  required_import_first = record { normal = (_, refl); no_runtime = λ e. omega arith; start = 1; starts = settled.required (_, refl) {i = 2} (1, Require, refl, points_at import_first 2 1 Require 1 (_, refl) refl refl); leads = here }

  required_require_first : MustWrap require_first o 1
  required_require_first = record { normal = (_, refl); no_runtime = λ e. omega arith; start = 1; starts = settled.required (_, refl) {i = 2} (0, Require, refl, points_at require_first 2 0 Require 1 (_, refl) refl refl); leads = here }

  three_cause : Cause through_common o 3
  three_cause = settled.target (record { normal = (_, refl); common = refl; importer = 2; mentions = (0, Import, points_at through_common 2 0 Import 3 (_, refl) refl refl) })

  three_wraps : MustWrap through_common o 3
  three_wraps = record { normal = (_, refl); no_runtime = λ e. omega arith; start = 3; starts = three_cause; leads = here }

  one_wraps : MustWrap through_common o 1
  one_wraps = record { normal = (_, refl); no_runtime = λ e. omega arith; start = 3; starts = three_cause; leads = along {a = 3} ((λ e. omega arith), (0, Import, points_at through_common 3 0 Import 1 (_, refl) refl refl)) here }

  star_1_3 : Stars star_circle 1 3
  star_1_3 = (1, Import, refl, points_at star_circle 1 1 Import 3 (_, refl) refl refl)

  star_2_1 : Stars star_circle 2 1
  star_2_1 = (0, Import, refl, points_at star_circle 2 0 Import 1 (_, refl) refl refl)

  open_1 : MustOpen star_circle o 1
  open_1 = record { star = inl ((_, refl), (0, refl)); last = 3; leads = along {a = 1} star_1_3 here; open_end = inr refl }

  open_2 : MustOpen star_circle o 2
  open_2 = record { star = inl ((_, refl), (0, refl)); last = 3; leads = along {a = 1} star_1_3 (along {a = 2} star_2_1 here); open_end = inr refl }

  open_3 : MustOpen star_circle o 3
  open_3 = record { star = inr (1, star_1_3); last = 3; leads = here; open_end = inr refl }

import_1_3 : Imports await_circle 1 3
import_1_3 = (1, points_at await_circle 1 1 Import 3 (_, refl) refl refl)

import_2_1 : Imports await_circle 2 1
import_2_1 = (0, points_at await_circle 2 0 Import 1 (_, refl) refl refl)

awaits_1 : Awaits await_circle 1
awaits_1 = record { normal = (_, refl); last = 3; leads = along {a = 1} import_1_3 here; waiting = (_, refl, refl) }

awaits_2 : Awaits await_circle 2
awaits_2 = record { normal = (_, refl); last = 3; leads = along {a = 1} import_1_3 (along {a = 2} import_2_1 here); waiting = (_, refl, refl) }

awaits_3 : Awaits await_circle 3
awaits_3 = record { normal = (_, refl); last = 3; leads = here; waiting = (_, refl, refl) }

-- only 3 awaits, so every row names it
awaits_three : (s : ℕ) → AwaitAt await_circle s → s ≡ 3
awaits_three zero e = absurd (false≢true e)
awaits_three (suc zero) e = absurd (false≢true e)
awaits_three (suc (suc zero)) e = absurd (false≢true e)
awaits_three (suc (suc (suc zero))) e = refl
awaits_three (suc (suc (suc (suc zero)))) e = absurd (false≢true e)
awaits_three (suc (suc (suc (suc (suc s))))) e = absurd (false≢true e)

one_row : (waits : ℕ → Bool) → waits 2 ≡ true → row_total await_circle waits ≡ 1
one_row waits e = ap (λ (b : Bool). 0 + (0 + cond b 1 0)) e

the_row : (old left : List AwaitRow) (n : ℕ) → AwaitRows await_circle old left n → (n ≡ 1) × ((row_in left 0).importer ≡ 4) × ((row_in left 0).«record» ≡ 0) × ((row_in left 0).source ≡ 3)
the_row old left n r =
    let row = r.each 4 0 2 (points_at await_circle 4 0 Require 2 (_, refl) refl refl) awaits_2 in
    (r.count ∙ one_row r.waits ((r.when 2 (omega arith)).1 awaits_2), row.by, row.at, awaits_three (row_in left 0).source row.reached.0)

-- a lone entry goes by the format alone
abbrev with_format : LinkOptions → OutputFormat → LinkOptions
with_format o f = record { format = f; splitting_off = o.splitting_off; strict_order = o.strict_order; manual_groups = o.manual_groups; profiler_names = o.profiler_names }

none_wraps : (o : LinkOptions) (uses : Bool) (f : OutputFormat) → o.format ≡ f → all_modules (closed (lone_entry uses) (with_format o f) (λ m. false)) 0 (lone_entry uses).modules ≡ true → MustWrap (lone_entry uses) o 1 → ⊥
none_wraps o uses f e good r = false≢true (must_in (lone_entry uses) o (λ m. false) (subst (λ (x : OutputFormat). all_modules (closed (lone_entry uses) (with_format o x) (λ m. false)) 0 (lone_entry uses).modules ≡ true) (sym e) good) 1 r)

iife_wraps : (o : LinkOptions) → o.format ≡ Iife → MustWrap (lone_entry true) o 1
iife_wraps o e = record { normal = (_, refl); no_runtime = λ e. omega arith; start = 1; starts = settled.importer _ refl refl (ap (λ (f : OutputFormat). format_wraps f (normal CommonJs false false true true)) e); leads = here }

pub worked : Worked
worked = record {
  an_import_makes_esm = λ o. reads_unwrapped imported o 1 (omega arith) (λ r. false≢true (must_in imported o (λ m. false) refl 1 r));
  a_lazy_one_stays = λ o. reads_unwrapped imported_lazy o 1 (omega arith) (λ r. false≢true (must_in imported_lazy o (λ m. false) refl 1 r));
  import_then_require = λ o. reads_wrapped import_first o 1 (omega arith) (required_import_first o);
  require_then_import = λ o. reads_wrapped require_first o 1 (omega arith) (required_require_first o);
  common_leads_on = λ o. (reads_wrapped through_common o 3 (omega arith) (three_wraps o), reads_wrapped through_common o 1 (omega arith) (one_wraps o), reads_unwrapped through_common o 2 (omega arith) (λ r. false≢true (must_in through_common o one_three refl 2 r)));
  a_lone_entry = λ o uses e. reads_unwrapped (lone_entry uses) o 1 (omega arith) (none_wraps o uses Cjs e refl);
  a_strict_entry = λ o uses e strict groups. finishes_wrapped (lone_entry uses) o 1 (omega arith) strict groups (_, refl) refl;
  an_entry_by_its_use = λ o e. (reads_wrapped (lone_entry true) o 1 (omega arith) (iife_wraps o e), reads_unwrapped (lone_entry false) o 1 (omega arith) (none_wraps o false Iife e refl));
  star_circles = λ o. ((λ rows s. (s.dynamic 1 (omega arith)).1 (open_1 o)), (λ rows s. (s.dynamic 2 (omega arith)).1 (open_2 o)), (λ rows s. (s.dynamic 3 (omega arith)).1 (open_3 o)), (λ rows s. not_yes (dynamic_in rows 0) (λ e. open_zero o ((s.dynamic 0 (omega arith)).0 e))));
  await_circles = λ o. ((λ rows s. (s.awaiting 1 (omega arith)).1 awaits_1), (λ rows s. (s.awaiting 2 (omega arith)).1 awaits_2), (λ rows s. (s.awaiting 3 (omega arith)).1 awaits_3), (λ rows s. not_yes (awaiting_in rows 4) (λ e. four_waits_not ((s.awaiting 4 (omega arith)).0 e))));
  the_await_named = the_row;
}
