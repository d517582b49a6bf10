use Rattle.std.proofs.Common.{◌≡◌, drop}
use Rattle.faults.specs.Faults.{each}
use Rattle.spread.specs.Spread.{arrow_check, arrow_verdict}
use Rattle.spread.proofs.run.check_arrows.Given as goal

-- what the rows from here on give decides
abbrev pub invariant-loop-row : goal.invariant-loop-row
invariant-loop-row l = arrow_verdict l.places l.arrows ≡ each (arrow_check l.places) l.row (drop l.row l.arrows)
