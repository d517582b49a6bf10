use Rattle.std.proofs.Common.{◌≡◌, ℕ, refl, sym, ap, ◌∙◌}
use Rattle.std.proofs.lemmas.Fn.{says_at}
use Rattle.std.proofs.lemmas.Result.{err_from_is_err_and}
use Rattle.faults.proofs.Checks.{each_passes, each_refuses, each_done}
use Rattle.interop.specs.Checks.{module_verdict}
use Rattle.interop.proofs.check.check_each.Goals as goal

pub returns-in_err-check_module : goal.returns-in_err-check_module
returns-in_err-check_module g c = λ of key.
    let w = g.S.ModuleSource.meaning c.args.source.now in
    let check = λ (i : ℕ) (row : g.row.Row.Denot). module_verdict w i (of row) in
    let row = c.index-rows-i.result in
    let i = c.loop-i.i in
    let is : c.named.result ≡ of row = key row c.named.result (says_at g.F.Fn c.named.ensures refl) in
    let p = err_from_is_err_and c.from_residual.result c.from_residual.ensures.1 in
    rw (p.1, p.2) (sym (c.loop-i.invariant of key ∙ each_refuses check c.args.rows.now i row c.loop-i-test.true _ (ap (check i) (sym c.index-rows-i.is) ∙ ap (module_verdict w i) (sym is) ∙ sym c.in_err-check_module.ensures)))

pub loop-i-preserved : goal.loop-i-preserved
loop-i-preserved g c = λ of key.
    let w = g.S.ModuleSource.meaning c.args.source.now in
    let check = λ (i : ℕ) (row : g.row.Row.Denot). module_verdict w i (of row) in
    let row = c.index-rows-i.result in
    let i = c.loop-i.i in
    let is : c.named.result ≡ of row = key row c.named.result (says_at g.F.Fn c.named.ensures refl) in
    c.loop-i.invariant of key ∙ each_passes check c.args.rows.now i row c.loop-i-test.true (ap (check i) (sym c.index-rows-i.is) ∙ ap (module_verdict w i) (sym is) ∙ sym c.in_ok-check_module.ensures)

pub returns : goal.returns
returns g c = λ of key.
    let w = g.S.ModuleSource.meaning c.args.source.now in
    sym (c.loop-i.invariant of key ∙ each_done (λ i (row : g.row.Row.Denot). module_verdict w i (of row)) c.args.rows.now c.loop-i.i c.loop-i-test.false)
