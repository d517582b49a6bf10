use Rattle.std.proofs.Common.{◌+◌, ℕ, Result, [], drop, sym, ap, ◌∙◌}
use Rattle.std.proofs.lemmas.List.{at_drop_more, at_drop_all}
use Rattle.std.proofs.lemmas.Result.{err_from_is_err_and}
use Rattle.faults.specs.declared.Fault.{Fault}
use Rattle.card.specs.Cards.{go_on, modules_end}
use Rattle.card.proofs.check.check_modules.Goals as goal

pub returns-in_err-next : goal.returns-in_err-next
returns-in_err-next c =
    let bs = c.args.blocks.now in
    let m = c.loop-m.m in
    let p = err_from_is_err_and c.from_residual.result c.from_residual.ensures.1 in
    rw (p.1, p.2) (ap (λ (r : Result ℕ Fault). go_on r (λ end. modules_end (m + 1) end (drop (m + 1) bs))) c.in_err-next.ensures ∙ sym (at_drop_more (modules_end m c.loop-m.next) bs m [] c.loop-m-test.true) ∙ c.loop-m.invariant)

pub loop-m-preserved : goal.loop-m-preserved
loop-m-preserved c =
    let bs = c.args.blocks.now in
    let m = c.loop-m.m in
    ap (λ (r : Result ℕ Fault). go_on r (λ end. modules_end (m + 1) end (drop (m + 1) bs))) c.in_ok-next.ensures ∙ sym (at_drop_more (modules_end m c.loop-m.next) bs m [] c.loop-m-test.true) ∙ c.loop-m.invariant

pub returns : goal.returns
returns c = sym (at_drop_all (modules_end c.loop-m.m c.loop-m.next) c.args.blocks.now c.loop-m.m c.loop-m-test.false) ∙ c.loop-m.invariant
