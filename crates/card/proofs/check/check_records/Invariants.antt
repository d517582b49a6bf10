use Rattle.std.proofs.Common.{◌≡◌, drop}
use Rattle.card.specs.Cards.{records_verdict}
use Rattle.card.proofs.check.check_records.Given as goal

-- what is left of the blocks gives the answer
abbrev pub invariant-loop-r : goal.invariant-loop-r
invariant-loop-r l = records_verdict l.start l.r (drop l.r l.blocks) ≡ records_verdict l.start 0 l.blocks
