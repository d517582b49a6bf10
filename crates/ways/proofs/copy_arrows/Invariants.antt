use Rattle.std.proofs.Common.{◌+◌, ◌≤◌, take, sum_by}
use Rattle.ways.specs.Ways.{CopiedUpTo}
use Rattle.ways.proofs.Copies.{Within, long}
use Rattle.ways.proofs.Sweeps.{Before}
use Rattle.ways.proofs.copy_arrows.Given as goal

abbrev pub invariant-loop-m : goal.invariant-loop-m
invariant-loop-m g l =
    let w = g.S.ModuleSource.meaning l.source in
    (l.n ≤ sum_by long (take l.m w.modules)) × CopiedUpTo (Before l.m) l.way w l.arrows l.n

abbrev pub invariant-loop-k : goal.invariant-loop-k
invariant-loop-k g l =
    let w = g.S.ModuleSource.meaning l.source in
    (l.n ≤ sum_by long (take l.m w.modules) + l.k) × CopiedUpTo (Within l.m l.k) l.way w l.arrows l.n
