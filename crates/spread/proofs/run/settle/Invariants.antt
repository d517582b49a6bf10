use Rattle.spread.proofs.Rounds.{Rounds}
use Rattle.spread.proofs.run.settle.Given as goal

abbrev pub invariant-loop-round : goal.invariant-loop-round
invariant-loop-round g l = Rounds g.F.Fact.zero g.F.Fact.join l.arrows l.initial.facts l.facts l.round
