use Rattle.std.proofs.Common.{◌≡◌, sym, subst, arith, rules}
use Rattle.card.specs.Cards.{card_verdict}
use Rattle.card.specs.Writable.{Exact}
use Rattle.card.proofs.Whole.{exact}
use Rattle.card.proofs.check.check_card.Goals as goal

pub returns-in_err-check_head-clause-exact : goal.returns-in_err-check_head-clause-exact
returns-in_err-check_head-clause-exact c =
    let verdict : c.from_residual.result ≡ card_verdict c.args.image.now = search rules in
    subst (Exact c.args.image.now) (sym verdict) (exact c.args.image.now (λ k. omega (arith, c.type_inv.image k)))

pub returns-clause-exact : goal.returns-clause-exact
returns-clause-exact c =
    let verdict : c.check_blocks.result ≡ card_verdict c.args.image.now = search rules in
    subst (Exact c.args.image.now) (sym verdict) (exact c.args.image.now (λ k. omega (arith, c.type_inv.image k)))
