use Rattle.std.proofs.Common.{◌≡◌}
use Rattle.ways.specs.Targets.{flag}
use Rattle.tla.specs.Rows.{rows_before, row_place}
use Rattle.tla.proofs.await_rows.count_await_rows.Given as goal

abbrev pub invariant-loop-m : goal.invariant-loop-m
invariant-loop-m g l = l.n ≡ rows_before (g.S.ModuleSource.meaning l.source) (flag l.facts) l.m

abbrev pub invariant-loop-k : goal.invariant-loop-k
invariant-loop-k g l = l.n ≡ row_place (g.S.ModuleSource.meaning l.source) (flag l.facts) l.m l.k
