-- An accepted finish leaves all that is settled. Assumes nothing.
use Rattle.std.proofs.Common.{◌≡◌, ℕ, ◌<◌, Bool, true, ◌⊎◌, ◌↔◌, List, ◌++◌, length, drop, is_ok, None, Ok, Err, Result, sym, refl, ap, ◌∙◌, subst, inl, inr, arith}
use mathlib.Core.Bool.{false≢true}
use Rattle.std.proofs.lemmas.List.{get_or_append_left}
use Rattle.std.proofs.lemmas.Bool.{and_from, and_parts, or_cases, or_left, or_right}
use Rattle.faults.specs.declared.Fault.{Fault}
use Rattle.faults.specs.Faults.{Verdict}
use Rattle.source.specs.declared.ExportsKind.{ExportsKind}
use Rattle.source.specs.declared.ExportsKind.TheVariants.{None as Unknown, Esm, CommonJs}
use Rattle.source.specs.declared.Module.{Module}
use Rattle.source.specs.declared.Module.TheVariants.{External, Normal}
use Rattle.source.specs.declared.NormalModule.{NormalModule}
use Rattle.source.specs.Meaning.{Meaning, count_of, module_at}
use Rattle.marks.specs.declared.options.LinkOptions.{LinkOptions}
use Rattle.marks.specs.declared.rows.MarkRow.{MarkRow}
use Rattle.marks.specs.declared.rows.WrapperRow.{WrapperRow}
use Rattle.marks.specs.Kinds.{settled_kind}
use Rattle.marks.specs.Rules.{read_row, is_wrapped, wrap_of}
use Rattle.marks.specs.Passes.{StrictWraps, FinishDid}
use Rattle.marks.specs.Records.{NormalAt}
use Rattle.marks.specs.Rows.{row_at, kind_in, wrapped_in, Raised}
use Rattle.marks.proofs.Records.{normal_below}
use Rattle.wrappers.specs.Wrappers.{strict_wraps, ends_wrapped, wrapper_row}
use Rattle.lawful.specs.Lawful.{Lawful}
use Rattle.link.specs.Calls.{results_verdict, counted, wrappers_of}
use Rattle.settled.specs.declared.calls.Asked.{Asked}
use Rattle.settled.specs.Settled.{Settled}
use Rattle.settled.proofs.Facts.{raised_is, wraps_by_kind}
use Rattle.runs.specs.Ended.{EndsWrapped, no_wrapper, wrapper_in, Finished, EndDid, EndsSettled}
use Rattle.runs.specs.Made.{At}
use Rattle.runs.proofs.Cut.{ok_err}
use Rattle.runs.proofs.Listed.{Ends, listed}
use Rattle.runs.proofs.Tracked.{tracked, finish_settled}

-- strict order with manual groups wraps a normal CommonJS module, as a test
strict_is : (o : LinkOptions) (d : Module) (kind : ExportsKind) → strict_wraps o d kind ≡ true → ((n : NormalModule) × (d ≡ Normal n)) × (kind ≡ CommonJs) × (o.strict_order ≡ true) × (o.manual_groups ≡ true)
strict_is o External kind e = absurd (false≢true e)
strict_is o (Normal n) Unknown e = absurd (false≢true e)
strict_is o (Normal n) Esm e = absurd (false≢true e)
strict_is o (Normal n) CommonJs e = let both = and_parts o.strict_order o.manual_groups e in ((n, refl), refl, both.0, both.1)

normal_ends : (o : LinkOptions) (d : Module) (row : MarkRow) → ends_wrapped o d row ≡ true → ((n : NormalModule) × (d ≡ Normal n)) × ((is_wrapped (read_row row).wrap ≡ true) ⊎ (strict_wraps o d row.kind ≡ true))
normal_ends o External row e = absurd (false≢true e)
normal_ends o (Normal n) row e = ((n, refl), or_cases (is_wrapped (read_row row).wrap) (strict_wraps o (Normal n) row.kind) e)

-- a flag that is raised by nothing keeps its meaning
stays : {P : Type 0} {old new : Bool} → Raised ⊥ old new → (old ≡ true) ↔ P → (new ≡ true) ↔ P
stays r t = (λ e. elim (r.only e) [ inl x ↦ t.0 x | inr y ↦ absurd y ], λ p. r.kept (t.1 p))

module _ (w : Meaning) (o : LinkOptions) (rows : List MarkRow) (s : Settled w o rows) where
  strict_as : (m : ℕ) → m < count_of w → StrictWraps w o (kind_in rows) m ↔ StrictWraps w o (settled_kind w o) m
  strict_as m h = (
    λ x. record { strict = x.strict; groups = x.groups; normal = x.normal; common = sym (s.kind m h) ∙ x.common },
    λ x. record { strict = x.strict; groups = x.groups; normal = x.normal; common = s.kind m h ∙ x.common },
  )

  -- a wrapper is written exactly where the module ends wrapped
  ends_to : (m : ℕ) → Ends w o rows m → EndsWrapped w o m
  ends_to m e =
      let n = normal_ends o (module_at w m) (row_at rows m) e in
      let h = normal_below w m n.0 in
      elim n.1 [
        | inl x ↦ inl ((s.wrapped m h).0 x)
        | inr y ↦ let t = strict_is o (module_at w m) (row_at rows m).kind y in inr (record { strict = t.2; groups = t.3; normal = n.0; common = sym (s.kind m h) ∙ t.1 })
      ]

  ends_normal : (m : ℕ) → NormalAt w m → (wrapped_in rows m ≡ true) ⊎ StrictWraps w o (kind_in rows) m → Ends w o rows m
  ends_normal m n x = ap (λ (d : Module). ends_wrapped o d (row_at rows m)) n.1 ∙ by_cases x
    where
      by_cases : (wrapped_in rows m ≡ true) ⊎ StrictWraps w o (kind_in rows) m → ends_wrapped o (Normal n.0) (row_at rows m) ≡ true
      by_cases (inl e) = or_left (is_wrapped (read_row (row_at rows m)).wrap) (strict_wraps o (Normal n.0) (row_at rows m).kind) e
      by_cases (inr t) = or_right (is_wrapped (read_row (row_at rows m)).wrap) (strict_wraps o (Normal n.0) (row_at rows m).kind) (ap (strict_wraps o (Normal n.0)) t.common ∙ and_from o.strict_order o.manual_groups t.strict t.groups)

  ends_from : (m : ℕ) → EndsWrapped w o m → Ends w o rows m
  ends_from m (inl x) = ends_normal m x.normal (inl ((s.wrapped m (normal_below w m x.normal)).1 x))
  ends_from m (inr y) = ends_normal m y.normal (inr ((strict_as m (normal_below w m y.normal)).1 y))

  ends_below : (m : ℕ) → EndsWrapped w o m → m < count_of w
  ends_below m (inl x) = normal_below w m x.normal
  ends_below m (inr y) = normal_below w m y.normal

  module _ (left : List MarkRow) (d : FinishDid w o rows left) (before : List WrapperRow) where
    abbrev wrappers : List WrapperRow
    wrappers = wrappers_of o w rows

    kinds : (m : ℕ) → m < count_of w → kind_in left m ≡ settled_kind w o m
    kinds m h = d.kind m h ∙ s.kind m h

    wrapped : (m : ℕ) → m < count_of w → (wrapped_in left m ≡ true) ↔ EndsWrapped w o m
    wrapped m h =
        let r = raised_is (d.wrap m h) in (
          λ e. elim (r.0 e) [ inl x ↦ inl ((s.wrapped m h).0 x) | inr y ↦ inr ((strict_as m h).0 y) ],
          λ x. r.1 (elim x [ inl y ↦ inl ((s.wrapped m h).1 y) | inr z ↦ inr ((strict_as m h).1 z) ]),
        )

    -- a wrapper's row goes by the settled kind
    by_settled : (m : ℕ) → m < count_of w → wrapper_row o m (row_at rows m).kind ≡ wrapper_row o m (settled_kind w o m)
    by_settled m h = ap (wrapper_row o m) (s.kind m h)

    in_front : (i : ℕ) → i < length wrappers → wrapper_in (wrappers ++ drop (length wrappers) before) i ≡ wrapper_in wrappers i
    in_front i lt = get_or_append_left wrappers (drop (length wrappers) before) no_wrapper i lt

    pub finished : Finished w o left (wrappers ++ drop (length wrappers) before) (length wrappers)
    finished =
        let l = listed w o rows (count_of w) in
        record {
          marks = record {
            kind = kinds;
            wrapped = wrapped;
            wrap = λ m h e. wraps_by_kind (kind_in left m) (row_at left m).wrap e ∙ ap wrap_of (kinds m h);
            required = λ m h. stays (d.required m h) (s.required m h);
            dynamic = λ m h. stays (d.dynamic m h) (s.dynamic m h);
            awaiting = λ m h. stays (d.awaiting m h) (s.awaiting m h);
          };
          each = λ m e.
              let h = ends_below m e in
              let x = l.each m h (ends_from m e) in
              (x.0, x.1, in_front x.0 x.1 ∙ x.2 ∙ by_settled m h);
          only = λ i lt.
              let x = l.only i lt in
              (x.0, ends_to x.0 x.2, in_front i lt ∙ x.3 ∙ by_settled x.0 x.1);
          order = λ i j lt end.
              let first : i < length wrappers = omega arith in
              let a = ap (λ (r : WrapperRow). r.«module») (in_front i first) in
              let b = ap (λ (r : WrapperRow). r.«module») (in_front j end) in
              omega (arith, l.order i j lt end, a, b);
        }

counted_ok : (v : Verdict) (k n : ℕ) → Ok n ≡ counted v k → (is_ok v ≡ true) × (n ≡ k)
counted_ok (Ok u) k n e = (refl, cc)
counted_ok (Err f) k n e = absurd (ok_err e)

pub end_settles : (answer : Result ℕ Fault) (w : Meaning) (o : LinkOptions) (arrows places : ℕ) (asked answers : List Asked) (old new : At) (before wrappers : List WrapperRow) → Lawful w o → EndDid answer w o arrows places asked answers old new before wrappers → EndsSettled answer w o new.marks wrappers
end_settles (Ok n) w o arrows places asked answers old new before wrappers lawful d =
    let k = tracked w o lawful arrows places asked answers old d.last d.calls in
    let p = d.last.link.options in
    let rows = d.last.marks in
    let count = counted_ok _ (length (wrappers_of p w rows)) n d.finish in
    let s = finish_settled w o lawful d.last (record { marks = length rows; work = None }) p (results_verdict (length before) (length (wrappers_of p w rows))) k count.0 in
    let by-options = subst (λ (q : LinkOptions). Settled w q rows) (sym k.options) s in
    let all = finished w p rows by-options new.marks d.marks before in
    let here = subst (λ (i : ℕ). Finished w p new.marks (wrappers_of p w rows ++ drop i before) i) (sym count.1) all in
    subst (λ (q : LinkOptions). Finished w q new.marks wrappers n) k.options (subst (λ (l : List WrapperRow). Finished w p new.marks l n) (sym d.written) here)
end_settles (Err f) w o arrows places asked answers old new before wrappers lawful d = tt
