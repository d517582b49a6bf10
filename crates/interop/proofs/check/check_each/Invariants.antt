use Rattle.std.proofs.Common.{◌≡◌, ℕ, drop}
use Rattle.std.specs.Fn.{FnReturnsAt}
use Rattle.faults.specs.Faults.{each}
use Rattle.interop.specs.Checks.{module_verdict}
use Rattle.interop.proofs.check.check_each.Given as goal

abbrev pub invariant-loop-i : goal.invariant-loop-i
invariant-loop-i g l =
    (of : _ → ℕ) →
    ((row : _) (m : ℕ) → FnReturnsAt g.F.Fn l.named row m → m ≡ of row) →
    each (λ i row. module_verdict (g.S.ModuleSource.meaning l.source) i (of row)) 0 l.rows ≡ each (λ i row. module_verdict (g.S.ModuleSource.meaning l.source) i (of row)) l.i (drop l.i l.rows)
