use Rattle.std.proofs.Common.{◌≡◌, ◌≤◌}
use Rattle.marks.specs.Passes.{rank}
use Rattle.entries.proofs.reach.count_entries.Given as goal

abbrev pub invariant-loop-m : goal.invariant-loop-m
invariant-loop-m g l = (l.n ≡ rank (g.S.ModuleSource.meaning l.source) l.m) × (l.n ≤ l.m)
