use Rattle.std.proofs.Common.{◌≡◌, ◌≤◌, length, take, sum_by}
use Rattle.source.specs.Meaning.{Scanned}
use Rattle.source.proofs.count_records.Given as goal

abbrev pub invariant-loop-m : goal.invariant-loop-m
invariant-loop-m g l =
    let w = g.S.ModuleSource.meaning l.source in
    (l.total ≡ sum_by (λ (s : Scanned). length s.records) (take l.m w.modules)) × (l.total ≤ 32768)
