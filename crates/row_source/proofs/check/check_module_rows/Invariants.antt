use Rattle.std.proofs.Common.{◌≡◌, ◌*◌, ◌^◌, ◌≤◌, take, drop}
use Rattle.faults.specs.Faults.{each}
use Rattle.row_source.specs.Checks.{total, module_row_verdict}
use Rattle.row_source.proofs.check.check_module_rows.Given as goal

abbrev pub invariant-loop-m : goal.invariant-loop-m
invariant-loop-m l =
    (each (module_row_verdict l.modules) 0 l.modules ≡ each (module_row_verdict l.modules) l.m (drop l.m l.modules))
    × (l.next ≡ total (take l.m l.modules))
    × (l.next ≤ l.m * 2 ^ 32)
