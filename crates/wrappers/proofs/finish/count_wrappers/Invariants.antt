use Rattle.std.proofs.Common.{◌≡◌, ◌≤◌, length}
use Rattle.wrappers.specs.Wrappers.{wrapper_rows}
use Rattle.wrappers.proofs.finish.count_wrappers.Given as goal

abbrev pub invariant-loop-m : goal.invariant-loop-m
invariant-loop-m g l = (l.n ≡ length (wrapper_rows (g.S.ModuleSource.meaning l.source) l.options l.rows l.m)) × (l.n ≤ l.m)
