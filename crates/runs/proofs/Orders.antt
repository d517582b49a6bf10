-- Calls that were made one after another settle the marks. Assumes nothing.
use Rattle.std.proofs.Common.{◌≡◌, ℕ, true, List, [], ◌∷◌, ◌++◌, length, is_ok, Some, Ok, Err, Result, sym, refl, ap, ◌∙◌, subst}
use mathlib.Core.Bool.{false≢true}
use Rattle.std.proofs.lemmas.List.{append-nil, append_assoc, length_push, get_or_at}
use Rattle.faults.specs.declared.Fault.{Fault}
use Rattle.faults.specs.Faults.{Verdict}
use Rattle.faults.proofs.Checks.{accepted_first, accepted_second}
use Rattle.source.specs.Meaning.{Meaning}
use Rattle.marks.specs.declared.options.LinkOptions.{LinkOptions}
use Rattle.marks.specs.declared.rows.MarkRow.{MarkRow}
use Rattle.lawful.specs.declared.check.Lent.{Lent}
use Rattle.lawful.specs.Lawful.{source_verdict, Lawful}
use Rattle.lawful.proofs.Kept.{lawful_source}
use Rattle.link.specs.declared.stage.Call.{Call}
use Rattle.link.specs.declared.stage.Call.TheVariants.{Begin}
use Rattle.link.specs.declared.stage.Stage.{Stage}
use Rattle.link.specs.declared.stage.Stage.TheVariants.{Fresh, Open, Closed}
use Rattle.link.specs.Stages.{unsettled, after}
use Rattle.link.specs.Calls.{call_verdict, or_stay, Leaves}
use Rattle.settled.specs.declared.calls.Asked.{Asked}
use Rattle.settled.specs.declared.calls.Pass.{Pass}
use Rattle.settled.specs.Runs.{PassDid, Answered, is_taken, no_call, Ran, begun, then_one, Settling}
use Rattle.settled.specs.Settled.{Settled}
use Rattle.settled.proofs.Settles.{every_order_settles}
use Rattle.runs.specs.Made.{At, Went, done, next, RunDid}

-- begin opens at every stage
pub begin_opens : (stage : Stage) → or_stay (after stage Begin) stage ≡ Open unsettled
begin_opens Fresh = refl
begin_opens (Open s) = refl
begin_opens Closed = refl

verdict_ok : (v : Verdict) → is_ok v ≡ true → v ≡ Ok tt
verdict_ok (Ok u) e = refl
verdict_ok (Err f) e = absurd (false≢true e)

-- an accepted call finds the source lawful
pub call_lawful : (c : Call) (stage : Stage) (o : LinkOptions) (w : Meaning) (lent : Lent) (own : Verdict) → is_ok (call_verdict c stage o w lent own) ≡ true → Lawful w o
call_lawful c stage o w lent own ok = lawful_source o w lent (verdict_ok (source_verdict o w lent) (accepted_first (source_verdict o w lent) own (accepted_second _ _ ok)))

answered_leaves : (pass : Pass) (w : Meaning) (o : LinkOptions) (old new : List MarkRow) (r : Result ℕ Fault) → Leaves (PassDid pass w o) r old new → Answered (is_taken (Some r)) pass w o old new
answered_leaves pass w o old new (Ok n) d = d
answered_leaves pass w o old new (Err f) e = e

module _ (w : Meaning) (o : LinkOptions) (arrows places : ℕ) (first : List MarkRow) where
  -- from calls that were made to a run: those before are `front`
  ran_on : {xs ys : List Asked} {s u : At} (front : List Asked) → s.link.options ≡ o → Ran w o (front ++ ys) first (length front) s.marks → Went w arrows places xs ys s u → Ran w o (front ++ ys) first (length (front ++ ys)) u.marks
  ran_on {s = s} front e ran done = subst (λ (n : ℕ). Ran w o (front ++ []) first n s.marks) (ap (λ (zs : List Asked). length zs) (sym (append-nil front))) ran
  ran_on front e ran (next {x} {y} {xs} {ys} {r} {s} {t} {u} is made rest) =
      let whole = append_assoc front (y ∷ []) ys in
      let did = subst (λ (p : LinkOptions). Leaves (PassDid x.pass w p) r s.marks t.marks) e made.marks in
      let here = get_or_at front y ys no_call (length front) refl ∙ is in
      let step = then_one (length_push front y) ran (subst (λ (z : Asked). Answered (is_taken z.answer) z.pass w o s.marks t.marks) (sym here) (answered_leaves x.pass w o s.marks t.marks r did)) in
      subst (λ (zs : List Asked). Ran w o zs first (length zs) u.marks) whole
      (ran_on (front ++ y ∷ []) (made.options ∙ e) (subst (λ (zs : List Asked). Ran w o zs first (length (front ++ y ∷ [])) t.marks) (sym whole) step) rest)

pub run_settles : (w : Meaning) (o : LinkOptions) (arrows places : ℕ) (asked answers : List Asked) (old new : At) → Lawful w o → RunDid w o arrows places asked answers old new → Settling answers → Settled w o new.marks
run_settles w o arrows places asked answers old new lawful d s =
    every_order_settles w o answers old.marks d.first.marks new.marks lawful d.marks (ran_on w o arrows places d.first.marks [] d.options begun d.calls) s
