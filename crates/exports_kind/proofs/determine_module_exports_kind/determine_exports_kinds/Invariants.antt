use Rattle.exports_kind.proofs.Sweeps.{Outer, Inner}
use Rattle.exports_kind.proofs.determine_module_exports_kind.determine_exports_kinds.Given as goal

abbrev pub invariant-loop-m : goal.invariant-loop-m
invariant-loop-m g l = Outer (g.S.ModuleSource.meaning l.source) l.options l.m l.initial.rows l.rows

abbrev pub invariant-loop-k : goal.invariant-loop-k
invariant-loop-k g l = Inner (g.S.ModuleSource.meaning l.source) l.options l.m l.k l.initial.rows l.rows
