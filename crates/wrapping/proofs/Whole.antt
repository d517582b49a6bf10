-- The parts of the wrap pass together do what it promises. Assumes nothing.
use Rattle.std.proofs.Common.{◌≡◌, ℕ, ◌<◌, ◌≤◌, true, ◌||◌, ◌↔◌, List, length, sym, refl, ap, ◌∙◌, inl, inr, arith}
use mathlib.Core.Bool.{false≢true}
use Rattle.std.proofs.lemmas.Bool.{and_parts, and_from, or_cases, or_left, or_right, not-true, not_from_false, eqb-false, ne_eqb}
use Rattle.source.specs.declared.ImportKind.TheVariants.{Require}
use Rattle.source.specs.Meaning.{Meaning, count_of, module_at}
use Rattle.marks.specs.declared.options.LinkOptions.{LinkOptions}
use Rattle.marks.specs.declared.rows.MarkRow.{MarkRow}
use Rattle.marks.specs.Passes.{WrapDid, Reached, WrapStarts, RequiredBy}
use Rattle.marks.specs.Passes as passes
use Rattle.marks.specs.Records.{NormalAt, Mentions, Requires, LeadsOn, Leads, here, along}
use Rattle.marks.specs.Rules.{agrees, is_wrapped, read_wrap}
use Rattle.marks.specs.Rows.{row_at, wrapped_in, Written}
use Rattle.marks.proofs.Records.{leads_as, normal_below, external_normal}
use Rattle.marks.proofs.Writes.{mark_agrees, mark_wrapped, raised_stays, raised_or}
use Rattle.spread.specs.declared.yes_no.YesNo.{YesNo}
use Rattle.spread.specs.Kinds.{plain_no, either}
use Rattle.ways.specs.declared.Way.TheVariants.{Wrappers}
use Rattle.ways.specs.declared.targets.Pick.TheVariants.{Every, Required}
use Rattle.ways.specs.Targets.{flag, is_normal, is_require, Filled, Cleared, PointedAt, Picked}
use Rattle.ways.specs.Ways.{Carried}
use Rattle.ways.proofs.Steps.{wrappers_to, wrappers_from, carried_from, carried_to}
use Rattle.wrapping.specs.Wraps.{MayWrap, is_common, Starts, WrappedRow}
use Rattle.ways.proofs.Requires.{require_is}
use Rattle.wrapping.proofs.Tests.{common_is, module_cases, normal_is}

module _ (w : Meaning) (rows new : List MarkRow) (lent any none pointed starts facts between none' required : List YesNo)
    (enough : count_of w ≤ length starts)
    (clear_first : Cleared (count_of w) lent none)
    (points-first : PointedAt Every w (flag any) none pointed)
    (filled : Filled (count_of w) (Starts w rows pointed) starts)
    (carried : Carried plain_no either Wrappers w starts facts)
    (clear-then : Cleared (count_of w) between none')
    (points-then : PointedAt Required w (flag facts) none' required)
    (written : Written (count_of w) (WrappedRow w facts required) rows new) where
  is_pointed : (m : ℕ) → m < count_of w → (flag pointed m ≡ true) ↔ ((i : ℕ) × Mentions w i m)
  is_pointed m h = (
    λ e. elim ((points-first.raised m).only e) [
      | inl old ↦ absurd (false≢true (sym (clear_first.clear m h) ∙ old))
      | inr p ↦ (p.0, (p.1, p.2.kind, p.2.points))
    ],
    λ s. (points-first.raised m).made (s.0, s.1.0, record { kind = s.1.1; points = s.1.2; by = refl }),
  )

  -- where wrapping starts
  starts_to : (m : ℕ) → m < count_of w → Starts w rows pointed m → WrapStarts w rows m
  starts_to m h s = (
    s.0.no_runtime,
    elim s.1 [
      | inl p ↦ (let t = (is_pointed m h).0 p.0 in inl (record { normal = s.0.normal; common = common_is _ p.1; importer = t.0; mentions = t.1 }))
      | inr wrapped ↦ inr (s.0.normal, wrapped)
    ],
  )

  starts_from : (m : ℕ) → WrapStarts w rows m → Starts w rows pointed m
  starts_from m s = elim s.1 [
    | inl t ↦ (record { normal = t.normal; no_runtime = s.0 }, inl ((is_pointed m (normal_below w m t.normal)).1 (t.importer, t.mentions), ap is_common t.common))
    | inr p ↦ (record { normal = p.0; no_runtime = s.0 }, inr p.1)
  ]

  start_normal : (m : ℕ) → WrapStarts w rows m → NormalAt w m
  start_normal m s = elim s.1 [ inl t ↦ t.normal | inr p ↦ p.0 ]

  -- what leads to a module is a module
  from_below : {q p : ℕ} → Leads (LeadsOn w) q p → p < count_of w → q < count_of w
  from_below here h = h
  from_below (along {a} s l) h = from_below l (normal_below w a s.1.2.importer)

  reach : (m : ℕ) → (MayWrap w m × (flag facts m ≡ true)) ↔ Reached w (WrapStarts w rows) m
  reach m = (
    λ r.
        let h = normal_below w m r.0.normal in
        let f = carried_from Wrappers w starts facts carried m (omega arith) r.1 in
        let l = leads_as (wrappers_to w) f.1 in
        let q = from_below l h in
        record { normal = r.0.normal; no_runtime = r.0.no_runtime; start = f.0; starts = starts_to f.0 q ((filled f.0 q).0 f.2); leads = l },
    λ r.
        let h = normal_below w m r.normal in
        let q = normal_below w r.start (start_normal r.start r.starts) in (
          record { normal = r.normal; no_runtime = r.no_runtime },
          carried_to Wrappers w starts facts carried r.start m (omega arith) (leads_as (wrappers_from w) r.leads) ((filled r.start q).1 (starts_from r.start r.starts)),
        ),
  )

  -- what is required
  by_record : (t : ℕ) → (a j : ℕ) → Picked Required w (flag facts) a j t → RequiredBy w (Reached w (WrapStarts w rows)) t
  by_record t a j p =
      let parts = and_parts _ _ p.by in
      let requires : Requires w a t = (j, record { importer = p.points.importer; by = require_is _ parts.0; to = p.points.to }) in
      elim (module_cases (module_at w t)) [
        | inr n ↦ passes.normal n requires
        | inl external ↦ elim (or_cases (is_normal (module_at w t)) _ parts.1) [
          | inl n ↦ absurd (let m = normal_is (module_at w t) n in external_normal m.0 (sym external ∙ m.1))
          | inr both ↦
              (let two = and_parts _ _ both in
              passes.external external ((reach a).0 (record { normal = p.points.importer; no_runtime = λ e. eqb-false a w.runtime (not-true _ two.0) e }, two.1)) requires)
        ]
      ]

  record_by : (t : ℕ) → RequiredBy w (Reached w (WrapStarts w rows)) t → (a : ℕ) × (j : ℕ) × Picked Required w (flag facts) a j t
  record_by t (passes.normal n {i} r) =
      (i, r.0, record { kind = Require; points = r.1; by = and_from _ _ (ap is_require r.1.by) (or_left _ _ (ap is_normal n.1)) })
  record_by t (passes.external e {i} reached r) =
      let back = (reach i).1 reached in
      (i, r.0, record { kind = Require; points = r.1; by = and_from _ _ (ap is_require r.1.by) (or_right _ _ (and_from _ _ (not_from_false _ (ne_eqb i w.runtime back.0.no_runtime)) back.1)) })

  is_required : (t : ℕ) → t < count_of w → (flag required t ≡ true) ↔ RequiredBy w (Reached w (WrapStarts w rows)) t
  is_required t h = (
    λ e. elim ((points-then.raised t).only e) [
      | inl old ↦ absurd (false≢true (sym (clear-then.clear t h) ∙ old))
      | inr p ↦ by_record t p.0 p.1 p.2
    ],
    λ r. (points-then.raised t).made (record_by t r),
  )

  pub wrap_did : (o : LinkOptions) → WrapDid w o rows new
  wrap_did o = record {
    long = written.long;
    past = written.rest;
    rule = λ m h. ap (λ (r : MarkRow). agrees r.kind r.wrap) (written.each m h).row ∙ mark_agrees (row_at rows m).kind (wrapped_in rows m || (written.each m h).reached);
    kind = λ m h. ap (λ (r : MarkRow). r.kind) (written.each m h).row;
    wrap = λ m h.
        raised_or (wrapped_in rows m) (written.each m h).reached (wrapped_in new m)
        (ap (λ (r : MarkRow). is_wrapped (read_wrap r.kind r.wrap)) (written.each m h).row ∙ mark_wrapped (row_at rows m).kind (wrapped_in rows m || (written.each m h).reached))
        (λ e. (reach m).0 ((written.each m h).when.0 e), λ p. (written.each m h).when.1 ((reach m).1 p));
    required = λ m h. raised_or (row_at rows m).required (flag required m) (row_at new m).required (ap (λ (r : MarkRow). r.required) (written.each m h).row) (is_required m h);
    dynamic = λ m h. raised_stays (ap (λ (r : MarkRow). r.dynamic) (written.each m h).row);
    awaiting = λ m h. raised_stays (ap (λ (r : MarkRow). r.awaiting) (written.each m h).row);
    entries = λ m h. ap (λ (r : MarkRow). r.entries) (written.each m h).row;
  }
