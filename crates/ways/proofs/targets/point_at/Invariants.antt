use Rattle.ways.specs.Targets.{flag, Picked}
use Rattle.ways.proofs.Sweeps.{Marked, Before, Only}
use Rattle.ways.proofs.targets.point_at.Given as goal

abbrev pub invariant-loop-m : goal.invariant-loop-m
invariant-loop-m g l =
    let w = g.S.ModuleSource.meaning l.source in
    Marked (Before l.m) (Picked l.pick w (flag l.from)) (flag l.initial.flags) (flag l.flags)

abbrev pub invariant-loop-k : goal.invariant-loop-k
invariant-loop-k g l =
    let w = g.S.ModuleSource.meaning l.source in
    Marked (Only l.m l.k) (Picked l.pick w (flag l.from)) (flag l.initial.flags) (flag l.flags)
