-- The stage tells what is settled. Assumes nothing.
use Rattle.std.proofs.Common.{◌≡◌, ℕ, Bool, true, false, cond, not, ◌&&◌, List, is_some, is_ok, Some, None, Ok, Err, Option, Result, sym, refl, ap, ◌∙◌, subst, inl, inr}
use mathlib.Core.Bool.{false≢true}
use Rattle.std.proofs.lemmas.Bool.{and_parts, not-false, or_cases}
use Rattle.faults.specs.declared.Fault.{Fault}
use Rattle.faults.specs.declared.Refusal.TheVariants.{NotAtThisStage}
use Rattle.faults.specs.Faults.{Verdict, refuse_if}
use Rattle.faults.proofs.Checks.{accepted_if, accepted_first}
use Rattle.source.specs.Meaning.{Meaning}
use Rattle.marks.specs.declared.options.LinkOptions.{LinkOptions}
use Rattle.marks.specs.declared.rows.MarkRow.{MarkRow}
use Rattle.lawful.specs.declared.check.Lent.{Lent}
use Rattle.lawful.specs.Lawful.{link_fault, Lawful}
use Rattle.link.specs.declared.stage.Call.TheVariants.{Finish}
use Rattle.link.specs.declared.stage.Settled.{Settled as Flags}
use Rattle.link.specs.declared.stage.Stage.{Stage}
use Rattle.link.specs.declared.stage.Stage.TheVariants.{Open, Closed}
use Rattle.link.specs.Stages.{unsettled, all_settled, after}
use Rattle.link.specs.Calls.{call_verdict, or_stay}
use Rattle.settled.specs.declared.calls.Asked.{Asked}
use Rattle.settled.specs.declared.calls.Pass.{Pass}
use Rattle.settled.specs.declared.calls.Pass.TheVariants.{Kinds, Star, Wrap, Await, Entries}
use Rattle.settled.specs.Runs.{PassDid}
use Rattle.settled.specs.Settled.{Settled}
use Rattle.settled.proofs.Bounds.{Under, Grows, begin_under, pass_steps}
use Rattle.settled.proofs.Settles.{KindsDone, StarDone, WrapDone, AwaitDone, kinds_adds, star_adds, wrap_adds, await_adds, kinds_keeps, wrap_keeps, done_settles}
use Rattle.runs.specs.Made.{At, call_of, Made, Went, done, next, RunDid}

-- what is settled by these flags is done
pub record Done (w : Meaning) (o : LinkOptions) (f : Flags) (rows : List MarkRow) : Type 0 where
  pub kinds : f.kinds ≡ true → KindsDone w o rows
  pub star : f.star ≡ true → StarDone w o rows
  pub wrap : f.wrap ≡ true → WrapDone w o rows
  pub awaits : f.awaits ≡ true → AwaitDone w o rows

pub record Tracked (w : Meaning) (o : LinkOptions) (s : At) : Type 0 where
  pub flags : Flags
  pub stage : s.link.stage ≡ Open flags
  pub options : s.link.options ≡ o
  pub under : Under w o s.marks
  pub so_far : Done w o flags s.marks

module _ (w : Meaning) (o : LinkOptions) (lawful : Lawful w o) where
  done_keeps : (f : Flags) (old new : List MarkRow) → Grows w o old new → Done w o f old → Done w o f new
  done_keeps f old new g d = record {
    kinds = λ e. kinds_keeps w o lawful old new g (d.kinds e);
    star = λ e m l p. g.dynamic m l (d.star e m l p);
    wrap = λ e. wrap_keeps w o lawful old new g (d.wrap e);
    awaits = λ e m l p. g.awaiting m l (d.awaits e m l p);
  }

  -- an accepted call settles what the stage then says
  module _ (f : Flags) (old new : List MarkRow) (u : Under w o old) (d : Done w o f old) where
    kept : (pass : Pass) → PassDid pass w o old new → Done w o f new
    kept pass did = done_keeps f old new (pass_steps w o lawful pass old new did u).grows d

    record SettlesOn (then : Stage) : Type 0 where
      flags : Flags
      stage : then ≡ Open flags
      so_far : Done w o flags new

    settles_on : (pass : Pass) → PassDid pass w o old new → SettlesOn (or_stay (after (Open f) (call_of pass)) (Open f))
    settles_on Kinds did =
        let k = kept Kinds did in
        record { flags = _; stage = refl; so_far = record { kinds = λ e. kinds_adds w o lawful old new u did; star = k.star; wrap = k.wrap; awaits = k.awaits } }
    settles_on Star did =
        let k = kept Star did in
        record { flags = _; stage = refl; so_far = record { kinds = k.kinds; star = λ e. elim (or_cases f.star f.kinds e) [ inl x ↦ k.star x | inr y ↦ star_adds w o lawful old new (d.kinds y) did ]; wrap = k.wrap; awaits = k.awaits } }
    settles_on Wrap did =
        let k = kept Wrap did in
        record { flags = _; stage = refl; so_far = record { kinds = k.kinds; star = k.star; wrap = λ e. elim (or_cases f.wrap f.kinds e) [ inl x ↦ k.wrap x | inr y ↦ wrap_adds w o lawful old new (d.kinds y) did ]; awaits = k.awaits } }
    settles_on Await did =
        let k = kept Await did in
        record { flags = _; stage = refl; so_far = record { kinds = k.kinds; star = k.star; wrap = k.wrap; awaits = λ e. await_adds w o lawful old new did } }
    settles_on Entries did = record { flags = f; stage = refl; so_far = kept Entries did }

  tracked_call : (pass : Pass) (lent : Lent) (room : ℕ) (r : Result ℕ Fault) (s t : At) → Made w pass lent room r s t → Tracked w o s → Tracked w o t
  tracked_call pass lent room (Ok n) s t m k =
      let did = subst (λ (p : LinkOptions). PassDid pass w p s.marks t.marks) k.options m.marks in
      let on = settles_on k.flags s.marks t.marks k.under k.so_far pass did in
      record {
        flags = on.flags;
        stage = m.stage ∙ ap (λ (x : Stage). or_stay (after x (call_of pass)) x) k.stage ∙ on.stage;
        options = m.options ∙ k.options;
        under = (pass_steps w o lawful pass s.marks t.marks did k.under).under;
        so_far = on.so_far;
      }
  tracked_call pass lent room (Err f) s t m k = record {
    flags = k.flags;
    stage = m.stage ∙ k.stage;
    options = m.options ∙ k.options;
    under = subst (Under w o) (sym m.marks) k.under;
    so_far = subst (Done w o k.flags) (sym m.marks) k.so_far;
  }

  tracked_calls : {arrows places : ℕ} {xs ys : List Asked} {s u : At} → Went w arrows places xs ys s u → Tracked w o s → Tracked w o u
  tracked_calls done k = k
  tracked_calls (next {x} {r = r} {s} {t} is made rest) k = tracked_calls rest (tracked_call x.pass _ _ r s t made k)

  pub tracked : (arrows places : ℕ) (asked answers : List Asked) (old last : At) → RunDid w o arrows places asked answers old last → Tracked w o last
  tracked arrows places asked answers old last d =
      tracked_calls d.calls (record {
        flags = unsettled;
        stage = d.stage;
        options = d.options;
        under = begin_under w o old.marks d.first.marks d.marks;
        so_far = record { kinds = λ e. absurd (false≢true e); star = λ e. absurd (false≢true e); wrap = λ e. absurd (false≢true e); awaits = λ e. absurd (false≢true e) };
      })

  -- finish is allowed only once all is settled
  closes : (b : Bool) → is_some (cond {A = Option Stage} b (Some Closed) None) ≡ true → b ≡ true
  closes true e = refl
  closes false e = absurd (false≢true e)

  pub finish_settled : (s : At) (lent : Lent) (p : LinkOptions) (own : Verdict) → Tracked w o s → is_ok (call_verdict Finish s.link.stage p w lent own) ≡ true → Settled w o s.marks
  finish_settled s lent p own k ok =
      let allowed = not-false (is_some (after s.link.stage Finish)) (accepted_if _ (link_fault NotAtThisStage 0 0) (accepted_first (refuse_if (not (is_some (after s.link.stage Finish))) (link_fault NotAtThisStage 0 0)) _ ok)) in
      let all = closes (all_settled k.flags) (subst (λ (x : Stage). is_some (after x Finish) ≡ true) k.stage allowed) in
      let three = and_parts ((k.flags.kinds && k.flags.star) && k.flags.wrap) k.flags.awaits all in
      let two = and_parts (k.flags.kinds && k.flags.star) k.flags.wrap three.0 in
      let one = and_parts k.flags.kinds k.flags.star two.0 in
      done_settles w o lawful s.marks k.under (k.so_far.kinds one.0) (k.so_far.star one.1) (k.so_far.wrap two.1) (k.so_far.awaits three.1)
