use Rattle.std.proofs.Common.{◌≡◌, length, sym, ap, ◌∙◌, arith}
use Rattle.source.specs.declared.Module.{Module}
use Rattle.source.specs.Meaning.{module_at}
use Rattle.marks.specs.Rows.{row_at}
use Rattle.wrappers.specs.Wrappers.{ends_wrapped}
use Rattle.wrappers.proofs.Rows.{rows_no, count_yes}
use Rattle.wrappers.proofs.finish.count_wrappers.Goals as goal
use Rattle.wrappers.proofs.finish.count_wrappers.Goals.{then-ends_wrapped, else-ends_wrapped}

pub loop-m-preserved : goal.loop-m-preserved
loop-m-preserved g c =
    let w = g.S.ModuleSource.meaning c.args.source.now in
    let o = c.args.options in
    let rows = c.args.rows.now in
    let m = c.loop-m.m in
    let tested : c.ends_wrapped.result ≡ ends_wrapped o (module_at w m) (row_at rows m) = c.ends_wrapped.ensures ∙ ap (λ (d : Module). ends_wrapped o d (row_at rows m)) c.module.ensures in
    elim c.if-ends_wrapped.branch [
      | then-ends_wrapped v ↦ (omega (arith, v.n-is, c.loop-m.invariant.0, count_yes w o rows m (sym tested ∙ v.if-ends_wrapped.true)), omega (arith, v.n-is, c.loop-m.invariant.1))
      | else-ends_wrapped v ↦ (omega (arith, v.n-is, c.loop-m.invariant.0, ap length (rows_no w o rows m (sym tested ∙ v.if-ends_wrapped.false))), omega (arith, v.n-is, c.loop-m.invariant.1))
    ]
