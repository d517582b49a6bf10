use Rattle.std.proofs.Common.{◌≡◌, true, false, length, get_or, Err, ap, sym, ◌∙◌, arith, rules}
use Rattle.std.proofs.lemmas.Iterator.{IsFirst-from_position, YieldsList-from_slice}
use Rattle.faults.proofs.Checks.{each_refuses, each_done}
use Rattle.source.specs.declared.ImportRecord.{ImportRecord}
use Rattle.row_source.specs.Checks.{targeted, record_row_verdict}
use Rattle.row_source.specs.Propers.{zero_record}
use Rattle.row_source.proofs.Verdicts.{record_row_refused, records_before}
use Rattle.row_source.proofs.check.check_record_rows.Goals as goal

pub returns-in-Some : goal.returns-in-Some
returns-in-Some c =
    let xs = c.args.records.now in
    let by = IsFirst-from_position _ _ _ (λ (r : ImportRecord). targeted r.target ≡ false) (λ (r : ImportRecord). targeted r.target ≡ true) c.in-Some.ensures.ran (YieldsList-from_slice xs cc) (λ x q k. search rules) (λ x q k. search rules) in
    sym (records_before xs c.in-Some.i (omega (arith, by.0)) (λ k lt. by.2 k zero_record (omega arith) lt)
    ∙ each_refuses record_row_verdict xs c.in-Some.i zero_record by.0 _ (record_row_refused c.in-Some.i (get_or xs c.in-Some.i zero_record) (by.1 zero_record)) ∙ ap Err (sym c.refused.ensures))

pub returns-in-None : goal.returns-in-None
returns-in-None c =
    let xs = c.args.records.now in
    let by = IsFirst-from_position _ _ _ (λ (r : ImportRecord). targeted r.target ≡ false) (λ (r : ImportRecord). targeted r.target ≡ true) c.in-None.ensures.ran (YieldsList-from_slice xs cc) (λ x q k. search rules) (λ x q k. search rules) in
    sym (records_before xs (length xs) (omega arith) (λ k lt. by k zero_record (omega arith) lt) ∙ each_done record_row_verdict xs (length xs) (omega arith))
