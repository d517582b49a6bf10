use Rattle.std.proofs.Common.{◌+◌, [], drop, sym, ap, ◌∙◌}
use Rattle.std.proofs.lemmas.List.{at_drop_more, at_drop_all}
use Rattle.std.proofs.lemmas.Result.{err_from_is_err_and}
use Rattle.faults.specs.Faults.{Verdict, and_then}
use Rattle.card.specs.Cards.{records_verdict}
use Rattle.card.proofs.check.check_records.Goals as goal

pub returns-in_err-check_record : goal.returns-in_err-check_record
returns-in_err-check_record c =
    let bs = c.args.blocks.now in
    let r = c.loop-r.r in
    let p = err_from_is_err_and c.from_residual.result c.from_residual.ensures.1 in
    rw (p.1, p.2) (ap (λ (v : Verdict). and_then v (records_verdict c.args.start (r + 1) (drop (r + 1) bs))) c.in_err-check_record.ensures ∙ sym (at_drop_more (records_verdict c.args.start r) bs r [] c.loop-r-test.true) ∙ c.loop-r.invariant)

pub loop-r-preserved : goal.loop-r-preserved
loop-r-preserved c =
    let bs = c.args.blocks.now in
    let r = c.loop-r.r in
    ap (λ (v : Verdict). and_then v (records_verdict c.args.start (r + 1) (drop (r + 1) bs))) c.in_ok-check_record.ensures ∙ sym (at_drop_more (records_verdict c.args.start r) bs r [] c.loop-r-test.true) ∙ c.loop-r.invariant

pub returns : goal.returns
returns c = sym (at_drop_all (records_verdict c.args.start c.loop-r.r) c.args.blocks.now c.loop-r.r c.loop-r-test.false) ∙ c.loop-r.invariant
