-- A call that passes its checks is accepted, and moves the stage on. Assumes nothing.
use Rattle.std.proofs.Common.{◌≡◌, not, true≢false, is_some, is_ok, Some, Ok, Err, Option, sym, ap, ◌∙◌}
use Rattle.faults.specs.declared.Fault.{Fault}
use Rattle.faults.specs.declared.Refusal.TheVariants.{NotAtThisStage}
use Rattle.faults.specs.Faults.{Verdict, refuse_if, and_then}
use Rattle.faults.proofs.Checks.{first_passes}
use Rattle.source.specs.Meaning.{Meaning}
use Rattle.marks.specs.declared.options.LinkOptions.{LinkOptions}
use Rattle.lawful.specs.declared.check.Lent.{Lent}
use Rattle.lawful.specs.Lawful.{link_fault, source_verdict}
use Rattle.link.specs.declared.stage.Call.{Call}
use Rattle.link.specs.declared.stage.Stage.{Stage}
use Rattle.link.specs.Stages.{after}
use Rattle.link.specs.Calls.{call_verdict, or_stay}

module _ (call : Call) (stage next : Stage) (e : after stage call ≡ Some next) where
  -- past the stage and the source, the call's own check decides
  pub own_decides : (o : LinkOptions) (w : Meaning) (lent : Lent) (own : Verdict) → source_verdict o w lent ≡ Ok tt → call_verdict call stage o w lent own ≡ own
  own_decides o w lent own ok =
      first_passes _ (and_then (source_verdict o w lent) own) (ap (λ (s : Option Stage). refuse_if (not (is_some s)) (link_fault NotAtThisStage 0 0)) e)
      ∙ first_passes (source_verdict o w lent) own ok

  pub moves_on : next ≡ or_stay (after stage call) stage
  moves_on = sym (ap (λ (s : Option Stage). or_stay s stage) e)

-- what refuses before a call's own check refuses whatever that check says
pub refused_anyway : (a b own : Verdict) (f : Fault) → and_then a (and_then b (Ok tt)) ≡ Err f → and_then a (and_then b own) ≡ Err f
refused_anyway (Err x) b own f e = e
refused_anyway (Ok u) (Err x) own f e = e
refused_anyway (Ok u) (Ok v) own f e = absurd (true≢false (ap (λ (v : Verdict). is_ok v) e))
