use Rattle.std.proofs.Common.{◌≡◌, drop}
use Rattle.faults.specs.Faults.{each}
use Rattle.lawful.specs.Lawful.{module_verdict}
use Rattle.lawful.proofs.records.check_all_records.Given as goal

abbrev pub invariant-loop-m : goal.invariant-loop-m
invariant-loop-m g l =
    let w = g.S.ModuleSource.meaning l.source in
    each (module_verdict l.options w) 0 w.modules ≡ each (module_verdict l.options w) l.m (drop l.m w.modules)
