use Rattle.spread.specs.Sweep.{Swept, Until}
use Rattle.spread.proofs.run.sweep_forward.Given as goal

abbrev pub invariant-loop-arrow : goal.invariant-loop-arrow
invariant-loop-arrow g l = Swept g.F.Fact.zero g.F.Fact.join l.arrows (Until l.arrow-index) l.initial.facts l.facts l.changed
