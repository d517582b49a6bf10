use Rattle.ways.specs.Targets.{flag}
use Rattle.tla.specs.Rows.{RowsWritten}
use Rattle.tla.specs.Once.{Known}
use Rattle.tla.proofs.Listed.{ModuleRows}
use Rattle.tla.proofs.await_rows.write_rows.Given as goal

abbrev pub invariant-loop-m : goal.invariant-loop-m
invariant-loop-m g l =
    let w = g.S.ModuleSource.meaning l.fn.imports.source.now in
    RowsWritten w (flag l.facts) l.m l.initial.list l.list l.n × Known w (g.M.Memory.known l.memory)

abbrev pub invariant-loop-k : goal.invariant-loop-k
invariant-loop-k g l =
    let w = g.S.ModuleSource.meaning l.fn.imports.source.now in
    ModuleRows w (flag l.facts) l.m l.k l.initial.list l.list l.n × Known w (g.M.Memory.known l.memory)
