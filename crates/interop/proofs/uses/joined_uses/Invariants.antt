use Rattle.std.proofs.Common.{◌≡◌, Option}
use Rattle.std.specs.Fn.{FnReturnsAt}
use Rattle.spread.specs.declared.interop_use.InteropUse.{InteropUse}
use Rattle.interop.proofs.Joins.{JoinedTo}
use Rattle.interop.proofs.uses.joined_uses.Given as goal

abbrev pub invariant-loop-row : goal.invariant-loop-row
invariant-loop-row g l =
    (of : _ → Option InteropUse) →
    ((row : _) (u : Option InteropUse) → FnReturnsAt g.F.Fn l.use_of row u → u ≡ of row) →
    JoinedTo of l.rows l.row-index l.uses
