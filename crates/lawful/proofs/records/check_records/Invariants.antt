use Rattle.std.proofs.Common.{◌≡◌, drop}
use Rattle.faults.specs.Faults.{each}
use Rattle.source.specs.Meaning.{records_of}
use Rattle.lawful.specs.Lawful.{record_verdict}
use Rattle.lawful.proofs.records.check_records.Given as goal

abbrev pub invariant-loop-k : goal.invariant-loop-k
invariant-loop-k g l =
    let w = g.S.ModuleSource.meaning l.source in
    let verdict = record_verdict l.options w l.importer l.m in
    each verdict 0 (records_of w l.m) ≡ each verdict l.k (drop l.k (records_of w l.m))
