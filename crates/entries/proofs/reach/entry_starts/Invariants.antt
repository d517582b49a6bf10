use Rattle.std.proofs.Common.{◌≡◌, ◌≤◌}
use Rattle.marks.specs.Passes.{rank}
use Rattle.entries.specs.Starts.{Ranked}
use Rattle.entries.proofs.reach.entry_starts.Given as goal

abbrev pub invariant-loop-m : goal.invariant-loop-m
invariant-loop-m g l =
    let w = g.S.ModuleSource.meaning l.source in
    (l.next ≡ rank w l.m) × (l.next ≤ l.m) × Ranked l.m w l.facts
