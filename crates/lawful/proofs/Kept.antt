-- A source that the checks accept keeps their rules. Assumes nothing.
use Rattle.std.proofs.Common.{◌≡◌, ℕ, ◌<◌, Bool, true, false, not, ◌&&◌, eqb, length, is_ok, Ok, Option, sym, refl, ap, ◌∙◌}
use mathlib.Core.Bool.{false≢true}
use Rattle.std.proofs.lemmas.Bool.{and_from, both_ways, eq-eqb, not-false}
use Rattle.faults.specs.declared.Fault.{Fault}
use Rattle.faults.specs.declared.Refusal.TheVariants.{RuntimeNotEsm, TargetPastEnd, StyleImportOfNormal, StarMisplaced, RuntimeRequired}
use Rattle.faults.specs.Faults.{Verdict, refuse_if, and_then}
use Rattle.faults.proofs.Checks.{accepted_if, accepted_first, accepted_second}
use Rattle.source.specs.declared.ExportsKind.{ExportsKind}
use Rattle.source.specs.declared.ExportsKind.TheVariants.{None as Unknown, Esm, CommonJs}
use Rattle.source.specs.declared.ImportKind.{ImportKind}
use Rattle.source.specs.declared.ImportKind.TheVariants.{Import, Require, DynamicImport, AtImport, UrlImport, NewUrl, HotAccept}
use Rattle.source.specs.declared.ImportRecord.{ImportRecord}
use Rattle.source.specs.declared.Module.{Module}
use Rattle.source.specs.declared.Module.TheVariants.{External, Normal}
use Rattle.source.specs.declared.NormalModule.{NormalModule}
use Rattle.source.specs.Meaning.{Meaning, module_at, record_at, records_of}
use Rattle.marks.specs.declared.options.LinkOptions.{LinkOptions}
use Rattle.marks.specs.Records.{acts_as_require}
use Rattle.marks.proofs.Records.{normal_below, points_in, star_in}
use Rattle.lawful.specs.declared.check.Lent.{Lent}
use Rattle.lawful.specs.Lawful.{link_fault, past_end, is_style, styles, style_to, style_of_normal, takes_star, star_misplaced, requires_number, runtime_required, records_verdict, esm_kind, is_esm, source_verdict, Lawful}
use Rattle.lawful.proofs.Told.{fifth, record_ok, targeted}

esm_is : (kind : ExportsKind) → esm_kind kind ≡ true → kind ≡ Esm
esm_is Unknown e = absurd (false≢true e)
esm_is Esm e = refl
esm_is CommonJs e = absurd (false≢true e)

esm_normal : (d : Module) → is_esm d ≡ true → (n : NormalModule) × (d ≡ Normal n) × (n.scanned ≡ Esm)
esm_normal External e = absurd (false≢true e)
esm_normal (Normal n) e = (n, refl, esm_is n.scanned e)

-- a star stands only on an import of a module scanned as ESM
star_taken : (kind : ImportKind) (scanned : ExportsKind) → takes_star kind scanned ≡ true → (kind ≡ Import) × (scanned ≡ Esm)
star_taken Import Unknown e = absurd (false≢true e)
star_taken Import Esm e = (refl, refl)
star_taken Import CommonJs e = absurd (false≢true e)
star_taken Require scanned e = absurd (false≢true e)
star_taken DynamicImport scanned e = absurd (false≢true e)
star_taken AtImport scanned e = absurd (false≢true e)
star_taken UrlImport scanned e = absurd (false≢true e)
star_taken NewUrl scanned e = absurd (false≢true e)
star_taken HotAccept scanned e = absurd (false≢true e)

-- one of the checks of a record, and those after it
this_passes : (b : Bool) (f : Fault) (rest : Verdict) → is_ok (and_then (refuse_if b f) rest) ≡ true → b ≡ false
this_passes b f rest ok = accepted_if b f (accepted_first (refuse_if b f) rest ok)

module _ (o : LinkOptions) (w : Meaning) (lent : Lent) (ok : source_verdict o w lent ≡ Ok tt) where
  module _ (m k : ℕ) (n : NormalModule) (is : module_at w m ≡ Normal n) (h : k < length (records_of w m)) where
    abbrev here : ImportRecord
    here = record_at w m k

    abbrev last : Verdict
    last = refuse_if (runtime_required o w here) (link_fault RuntimeRequired m k)

    abbrev third : Verdict
    third = and_then (refuse_if (star_misplaced n here) (link_fault StarMisplaced m k)) last

    abbrev second : Verdict
    second = and_then (refuse_if (style_of_normal w here) (link_fault StyleImportOfNormal m k)) third

    second_ok : is_ok second ≡ true
    second_ok = accepted_second (refuse_if (past_end w here.target) (link_fault TargetPastEnd m k)) second (record_ok o w lent ok m k n is (normal_below w m (n, is)) h)

    third_ok : is_ok third ≡ true
    third_ok = accepted_second (refuse_if (style_of_normal w here) (link_fault StyleImportOfNormal m k)) third second_ok

    unstyled : style_of_normal w here ≡ false
    unstyled = this_passes (style_of_normal w here) (link_fault StyleImportOfNormal m k) third second_ok

    star_placed : star_misplaced n here ≡ false
    star_placed = this_passes (star_misplaced n here) (link_fault StarMisplaced m k) last third_ok

    not_required : runtime_required o w here ≡ false
    not_required = accepted_if (runtime_required o w here) (link_fault RuntimeRequired m k) (accepted_second (refuse_if (star_misplaced n here) (link_fault StarMisplaced m k)) last third_ok)

  pub lawful_source : Lawful w o
  lawful_source = record {
    runtime_normal = esm_normal (module_at w w.runtime) (not-false _ (this_passes _ (link_fault RuntimeNotEsm 0 0) (records_verdict o w) (fifth o w lent ok)));
    targets = targeted o w lent ok;
    no_style = λ m k t kind p style normal.
        let clean = unstyled m k p.importer.0 p.importer.1 (points_in w m k t kind p) in
        let at_Target = sym (ap (λ (x : Option ℕ). style_to w x (record_at w m k).kind) p.to) ∙ clean in
        let of-normal = sym (ap (λ (d : Module). styles d (record_at w m k).kind) normal.1) ∙ at_Target in
        both_ways (is_style kind) (sym (ap is_style p.by) ∙ of-normal) style;
    stars = λ m k n is star.
        let placed = star_placed m k n is (star_in w m k star) in
        let taken = sym (ap (λ (b : Bool). b && not (takes_star (record_at w m k).kind n.scanned)) star) ∙ placed in
        star_taken (record_at w m k).kind n.scanned (not-false _ taken);
    runtime_free = λ m r.
        let p = r.3 in
        let k = r.0 in
        let clean = not_required m k p.importer.0 p.importer.1 (points_in w m k w.runtime r.1 p) in
        let at-runtime = sym (ap (λ (x : Option ℕ). requires_number o x (record_at w m k).kind w.runtime) p.to) ∙ clean in
        both_ways (eqb w.runtime w.runtime && acts_as_require o r.1) (sym (ap (λ (x : ImportKind). eqb w.runtime w.runtime && acts_as_require o x) p.by) ∙ at-runtime) (and_from _ _ (eq-eqb w.runtime w.runtime refl) r.2);
  }
