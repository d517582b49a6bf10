-- The checks that every link call makes of its source and of what it is lent.
--
--   link_fault        a fault that the link finds
--   past_end          a target past the last module
--   style_of_normal   an `AtImport` or `UrlImport` to a normal module
--   star_misplaced    a star that is not on an `Import` in a module scanned as ESM
--   runtime_required  the runtime is the target of a record that acts as `Require`
--   record_verdict    these four, of one record of module m, in their order
--   records_verdict   every record of every normal module, in scan order
--   is_esm            a normal module scanned as ESM
--   work_short        fewer arrows than records, or another work slice shorter than the modules
--   since_runtime, since_work, since_marks, since_records   the checks from that one on, in their order
--   source_verdict    all checks
--   Lawful            what a source keeps that they accept
use Rattle.std.specs.Prelude.{◌≡◌, ℕ, Bool, true, false, not, ◌&&◌, ◌||◌, Some, None, Ok, Option, ◌==◌, nat_le, nat_lt}
use Rattle.faults.specs.declared.Fault.{Fault}
use Rattle.faults.specs.declared.Layer.TheVariants.{Link}
use Rattle.faults.specs.declared.Refusal.{Refusal}
use Rattle.faults.specs.declared.Refusal.TheVariants.{TooManyModules, TooManyRecords, MarksTooShort, WorkTooShort, RuntimeNotEsm, TargetPastEnd, StyleImportOfNormal, StarMisplaced, RuntimeRequired}
use Rattle.faults.specs.Faults.{Verdict, fault, refuse_if, and_then, each}
use Rattle.source.specs.declared.ExportsKind.{ExportsKind}
use Rattle.source.specs.declared.ExportsKind.TheVariants.{None as Unknown, Esm, CommonJs}
use Rattle.source.specs.declared.ImportKind.{ImportKind}
use Rattle.source.specs.declared.ImportKind.TheVariants.{Import, Require, DynamicImport, AtImport, UrlImport, NewUrl, HotAccept}
use Rattle.source.specs.declared.ImportRecord.{ImportRecord}
use Rattle.source.specs.declared.Module.{Module}
use Rattle.source.specs.declared.Module.TheVariants.{External, Normal}
use Rattle.source.specs.declared.NormalModule.{NormalModule}
use Rattle.source.specs.Meaning.{Meaning, Scanned, count_of, module_at, record_at, record_total}
use Rattle.source.specs.Numbers.{module_limit, record_limit}
use Rattle.marks.specs.declared.options.LinkOptions.{LinkOptions}
use Rattle.marks.specs.Records.{NormalAt, Points, acts_as_require, ActsRequiring}
use Rattle.ways.specs.Ways.{Targets}
use Rattle.lawful.specs.declared.check.Lent.{Lent}

abbrev pub link_fault : Refusal → ℕ → ℕ → Fault
link_fault rule at inner = fault rule Link at inner

abbrev pub past_end : Meaning → Option ℕ → Bool
past_end w (Some t) = nat_le (count_of w) t
past_end w None = false

abbrev pub is_style : ImportKind → Bool
is_style Import = false
is_style Require = false
is_style DynamicImport = false
is_style AtImport = true
is_style UrlImport = true
is_style NewUrl = false
is_style HotAccept = false

abbrev pub styles : Module → ImportKind → Bool
styles External kind = false
styles (Normal n) kind = is_style kind

abbrev pub style_to : Meaning → Option ℕ → ImportKind → Bool
style_to w (Some t) kind = styles (module_at w t) kind
style_to w None kind = false

abbrev pub style_of_normal : Meaning → ImportRecord → Bool
style_of_normal w r = style_to w r.target r.kind

abbrev pub takes_star : ImportKind → ExportsKind → Bool
takes_star Import Unknown = false
takes_star Import Esm = true
takes_star Import CommonJs = false
takes_star Require scanned = false
takes_star DynamicImport scanned = false
takes_star AtImport scanned = false
takes_star UrlImport scanned = false
takes_star NewUrl scanned = false
takes_star HotAccept scanned = false

abbrev pub star_misplaced : NormalModule → ImportRecord → Bool
star_misplaced n r = r.star && not (takes_star r.kind n.scanned)

abbrev pub requires_number : LinkOptions → Option ℕ → ImportKind → ℕ → Bool
requires_number o (Some t) kind m = t == m && acts_as_require o kind
requires_number o None kind m = false

abbrev pub runtime_required : LinkOptions → Meaning → ImportRecord → Bool
runtime_required o w r = requires_number o r.target r.kind w.runtime

abbrev pub record_verdict : LinkOptions → Meaning → NormalModule → ℕ → ℕ → ImportRecord → Verdict
record_verdict o w n m k r =
    and_then (refuse_if (past_end w r.target) (link_fault TargetPastEnd m k))
    (and_then (refuse_if (style_of_normal w r) (link_fault StyleImportOfNormal m k))
    (and_then (refuse_if (star_misplaced n r) (link_fault StarMisplaced m k)) (refuse_if (runtime_required o w r) (link_fault RuntimeRequired m k))))

abbrev pub scanned_verdict : LinkOptions → Meaning → ℕ → Scanned → Module → Verdict
scanned_verdict o w m s External = Ok tt
scanned_verdict o w m s (Normal n) = each (record_verdict o w n m) 0 s.records

abbrev pub module_verdict : LinkOptions → Meaning → ℕ → Scanned → Verdict
module_verdict o w m s = scanned_verdict o w m s s.described

abbrev pub records_verdict : LinkOptions → Meaning → Verdict
records_verdict o w = each (module_verdict o w) 0 w.modules

abbrev pub esm_kind : ExportsKind → Bool
esm_kind Unknown = false
esm_kind Esm = true
esm_kind CommonJs = false

abbrev pub is_esm : Module → Bool
is_esm External = false
is_esm (Normal n) = esm_kind n.scanned

abbrev pub work_short : Option (ℕ × ℕ) → ℕ → ℕ → Bool
work_short (Some p) modules records = nat_lt p.0 records || nat_lt p.1 modules
work_short None modules records = false

abbrev pub since_runtime : LinkOptions → Meaning → Verdict
since_runtime o w = and_then (refuse_if (not (is_esm (module_at w w.runtime))) (link_fault RuntimeNotEsm 0 0)) (records_verdict o w)

abbrev pub since_work : LinkOptions → Meaning → Lent → Verdict
since_work o w lent = and_then (refuse_if (work_short lent.work (count_of w) (record_total w)) (link_fault WorkTooShort 0 0)) (since_runtime o w)

abbrev pub since_marks : LinkOptions → Meaning → Lent → Verdict
since_marks o w lent = and_then (refuse_if (nat_lt lent.marks (count_of w)) (link_fault MarksTooShort 0 0)) (since_work o w lent)

abbrev pub since_records : LinkOptions → Meaning → Lent → Verdict
since_records o w lent = and_then (refuse_if (nat_lt record_limit (record_total w)) (link_fault TooManyRecords 0 0)) (since_marks o w lent)

abbrev pub source_verdict : LinkOptions → Meaning → Lent → Verdict
source_verdict o w lent = and_then (refuse_if (nat_lt module_limit (count_of w)) (link_fault TooManyModules 0 0)) (since_records o w lent)

pub record Lawful (w : Meaning) (o : LinkOptions) : Type 0 where
  pub runtime_normal : (n : NormalModule) × (module_at w w.runtime ≡ Normal n) × (n.scanned ≡ Esm)
  pub targets : Targets w
  pub no_style : (m k t : ℕ) (kind : ImportKind) → Points w m k kind t → is_style kind ≡ true → NormalAt w t → ⊥
  pub stars : (m k : ℕ) (n : NormalModule) → module_at w m ≡ Normal n → (record_at w m k).star ≡ true → ((record_at w m k).kind ≡ Import) × (n.scanned ≡ Esm)
  pub runtime_free : (m : ℕ) → ActsRequiring w o m w.runtime → ⊥
