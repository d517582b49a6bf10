use Rattle.std.proofs.Common.{◌≡◌, drop}
use Rattle.card.specs.Cards.{modules_end}
use Rattle.card.proofs.check.check_modules.Given as goal

-- what is left of the blocks gives the answer
abbrev pub invariant-loop-m : goal.invariant-loop-m
invariant-loop-m l = modules_end l.m l.next (drop l.m l.blocks) ≡ modules_end 0 0 l.blocks
