use Rattle.std.proofs.Common.{get_or, Err, sym, ap, ◌∙◌, arith}
use Rattle.std.proofs.lemmas.List.{take_all}
use Rattle.std.proofs.lemmas.List.Sums.{sum_by_more}
use Rattle.faults.proofs.Checks.{each_passes, each_refuses, each_done}
use Rattle.row_source.specs.declared.rows.ModuleRow.{ModuleRow}
use Rattle.row_source.specs.Checks.{total, module_row_verdict}
use Rattle.row_source.specs.Propers.{zero_row}
use Rattle.row_source.proofs.Verdicts.{module_row_not_blank, module_row_elsewhere, module_row_passes}
use Rattle.row_source.proofs.check.check_module_rows.Goals as goal

pub returns-then-not-is_blank : goal.returns-then-not-is_blank
returns-then-not-is_blank c =
    let rows = c.args.modules.now in
    let m = c.loop-m.m in
    let one = module_row_not_blank rows m (get_or rows m zero_row) (sym c.if-not-is_blank.ensures) in
    c.loop-m.invariant.0 ∙ each_refuses (module_row_verdict rows) rows m zero_row c.loop-m-test.true _ one ∙ ap Err (sym c.refused.ensures)

pub returns-then-row-next : goal.returns-then-row-next
returns-then-row-next c =
    let rows = c.args.modules.now in
    let m = c.loop-m.m in
    let one = module_row_elsewhere rows m (get_or rows m zero_row) (sym c.if-not-is_blank.ensures) (λ e. c.if-row-next.true (e ∙ sym c.loop-m.invariant.1)) in
    c.loop-m.invariant.0 ∙ each_refuses (module_row_verdict rows) rows m zero_row c.loop-m-test.true _ one ∙ ap Err (sym c.refused-then-row-next.ensures)

pub loop-m-preserved : goal.loop-m-preserved
loop-m-preserved c =
    let rows = c.args.modules.now in
    let m = c.loop-m.m in
    let one = module_row_passes rows m (get_or rows m zero_row) (sym c.if-not-is_blank.ensures) (c.if-row-next.false ∙ c.loop-m.invariant.1) in
    let sum = sum_by_more (λ (row : ModuleRow). row.count) rows m zero_row c.loop-m-test.true in (
      c.loop-m.invariant.0 ∙ each_passes (module_row_verdict rows) rows m zero_row c.loop-m-test.true one,
      omega (arith, sum, c.loop-m.invariant.1),
      omega (arith, c.loop-m.invariant.2),
    )

pub returns : goal.returns
returns c =
    let rows = c.args.modules.now in
    let m = c.loop-m.m in (
      c.loop-m.invariant.0 ∙ each_done (module_row_verdict rows) rows m c.loop-m-test.false,
      c.loop-m.invariant.1 ∙ ap total (take_all m rows c.loop-m-test.false),
    )
