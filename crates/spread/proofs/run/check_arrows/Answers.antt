use Rattle.std.proofs.Common.{Err, sym, ap, ◌∙◌}
use Rattle.faults.proofs.Checks.{refuses, passes, each_refuses, each_passes, each_done}
use Rattle.spread.specs.Leads.{no_arrow}
use Rattle.spread.specs.Spread.{arrow_check}
use Rattle.spread.proofs.run.check_arrows.Goals as goal

pub returns-then-ends_past : goal.returns-then-ends_past
returns-then-ends_past c =
    let check = arrow_check c.args.places in
    sym (c.loop-row.invariant ∙ each_refuses check c.args.arrows.now c.loop-row.row no_arrow c.loop-row-test.true _ (refuses _ _ (sym c.ends_past.ensures ∙ c.if-ends_past.true)) ∙ ap Err (sym c.found_by.ensures))

pub loop-row-preserved : goal.loop-row-preserved
loop-row-preserved c =
    let check = arrow_check c.args.places in
    c.loop-row.invariant ∙ each_passes check c.args.arrows.now c.loop-row.row no_arrow c.loop-row-test.true (passes _ _ (sym c.ends_past.ensures ∙ c.if-ends_past.false))

pub returns : goal.returns
returns c = sym (c.loop-row.invariant ∙ each_done (arrow_check c.args.places) c.args.arrows.now c.loop-row.row c.loop-row-test.false)
