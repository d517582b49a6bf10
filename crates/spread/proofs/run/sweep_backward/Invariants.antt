use Rattle.std.proofs.Common.{◌≡◌, List, ◌++◌, length}
use Rattle.std.specs.Slice.Iter.{iter_rest}
use Rattle.spread.specs.declared.arrow.Arrow.{Arrow}
use Rattle.spread.specs.Sweep.{Swept, Since}
use Rattle.spread.proofs.run.sweep_backward.Given as goal

-- what is left to take is the front, and all that stands past it is taken
abbrev pub invariant-loop-last : goal.invariant-loop-last
invariant-loop-last g l =
    let left = iter_rest l.last-iterator.iter in
    ((taken : List Arrow) × (left ++ taken ≡ l.arrows)) × Swept g.F.Fact.zero g.F.Fact.join l.arrows (Since (length left)) l.initial.facts l.facts l.changed
