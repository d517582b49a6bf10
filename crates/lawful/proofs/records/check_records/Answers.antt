use Rattle.std.proofs.Common.{◌<◌, Err, sym, ap, ◌∙◌, arith}
use Rattle.std.proofs.lemmas.Result.{err_from_is_err_and}
use Rattle.source.specs.declared.ImportRecord.{ImportRecord}
use Rattle.source.specs.Meaning.{records_of, records_in, past_records}
use Rattle.faults.proofs.Checks.{each_passes, each_refuses, each_done}
use Rattle.lawful.specs.Lawful.{record_verdict}
use Rattle.lawful.proofs.records.check_records.Goals as goal

pub returns-in_err-check_record : goal.returns-in_err-check_record
returns-in_err-check_record g c =
    let w = g.S.ModuleSource.meaning c.args.source.now in
    let m = c.args.m in
    let k = c.loop-k.k in
    let verdict = record_verdict c.args.options w c.args.importer m in
    let p = err_from_is_err_and c.from_residual.result c.from_residual.ensures.1 in
    let lt : k < records_in w m = omega (arith, c.record_count-k-end.ensures) in
    p.1 ∙ ap Err p.2
    ∙ sym (c.loop-k.invariant ∙ each_refuses verdict (records_of w m) k past_records lt _ (ap (λ (r : ImportRecord). verdict k r) (sym c.record.ensures) ∙ sym c.in_err-check_record.ensures))

pub loop-k-preserved : goal.loop-k-preserved
loop-k-preserved g c =
    let w = g.S.ModuleSource.meaning c.args.source.now in
    let m = c.args.m in
    let k = c.loop-k.k in
    let verdict = record_verdict c.args.options w c.args.importer m in
    let lt : k < records_in w m = omega (arith, c.record_count-k-end.ensures) in
    c.loop-k.invariant ∙ each_passes verdict (records_of w m) k past_records lt (ap (λ (r : ImportRecord). verdict k r) (sym c.record.ensures) ∙ sym c.in_ok-check_record.ensures)

pub returns : goal.returns
returns g c =
    let w = g.S.ModuleSource.meaning c.args.source.now in
    sym (c.loop-k.invariant ∙ each_done (record_verdict c.args.options w c.args.importer c.args.m) (records_of w c.args.m) c.loop-k.k (omega (arith, c.record_count-k-end.ensures)))
