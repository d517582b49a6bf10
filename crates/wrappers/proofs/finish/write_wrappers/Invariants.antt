use Rattle.std.proofs.Common.{◌≡◌, ◌++◌, length, drop}
use Rattle.wrappers.specs.Wrappers.{wrapper_rows}
use Rattle.wrappers.proofs.finish.write_wrappers.Given as goal

abbrev pub invariant-loop-m : goal.invariant-loop-m
invariant-loop-m g l =
    let done = wrapper_rows (g.S.ModuleSource.meaning l.source) l.options l.rows l.m in
    (l.n ≡ length done) × (l.list ≡ done ++ drop l.n l.initial.list)
