use Rattle.std.proofs.Common.{◌<◌, Err, sym, ap, ◌∙◌, arith}
use Rattle.std.proofs.lemmas.Result.{err_from_is_err_and}
use Rattle.source.specs.Meaning.{count_of, scanned_at, past_modules}
use Rattle.faults.proofs.Checks.{each_passes, each_refuses, each_done}
use Rattle.lawful.specs.Lawful.{scanned_verdict, module_verdict}
use Rattle.lawful.proofs.records.check_all_records.Goals as goal

pub loop-m-preserved-in_default : goal.loop-m-preserved-in_default
loop-m-preserved-in_default g c =
    let w = g.S.ModuleSource.meaning c.args.source.now in
    let o = c.args.options in
    let m = c.loop-m.m in
    let lt : m < count_of w = omega (arith, c.module_count-m-end.ensures) in
    c.loop-m.invariant ∙ each_passes (module_verdict o w) w.modules m past_modules lt (ap (scanned_verdict o w m (scanned_at w m)) (sym c.in_default.ensures))

pub returns-in_err-check_records : goal.returns-in_err-check_records
returns-in_err-check_records g c =
    let w = g.S.ModuleSource.meaning c.args.source.now in
    let o = c.args.options in
    let m = c.loop-m.m in
    let p = err_from_is_err_and c.from_residual.result c.from_residual.ensures.1 in
    let lt : m < count_of w = omega (arith, c.module_count-m-end.ensures) in
    p.1 ∙ ap Err p.2
    ∙ sym (c.loop-m.invariant ∙ each_refuses (module_verdict o w) w.modules m past_modules lt _ (ap (scanned_verdict o w m (scanned_at w m)) (sym c.in-Normal.ensures) ∙ sym c.in_err-check_records.ensures))

pub loop-m-preserved : goal.loop-m-preserved
loop-m-preserved g c =
    let w = g.S.ModuleSource.meaning c.args.source.now in
    let o = c.args.options in
    let m = c.loop-m.m in
    let lt : m < count_of w = omega (arith, c.module_count-m-end.ensures) in
    c.loop-m.invariant ∙ each_passes (module_verdict o w) w.modules m past_modules lt (ap (scanned_verdict o w m (scanned_at w m)) (sym c.in-Normal.ensures) ∙ sym c.in_ok-check_records.ensures)

pub returns : goal.returns
returns g c =
    let w = g.S.ModuleSource.meaning c.args.source.now in
    sym (c.loop-m.invariant ∙ each_done (module_verdict c.args.options w) w.modules c.loop-m.m (omega (arith, c.module_count-m-end.ensures)))
