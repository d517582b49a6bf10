use Rattle.std.proofs.Common.{◌≡◌, Err, sym, refl, ◌∙◌, rules}
use Rattle.spread.proofs.Checks.{verdict_inside, refused}
use Rattle.spread.proofs.Order.{lattice}
use Rattle.spread.proofs.Laws.{spread_laws}
use Rattle.spread.proofs.run.spread.Goals as goal

pub returns-in_err-check_arrows : goal.returns-in_err-check_arrows
returns-in_err-check_arrows g c =
    let m = g.met.F.Fact in
    let laws = lattice m.assoc m.comm m.idem m.left in
    let is : c.from_residual.result ≡ Err c.in_err-check_arrows.field-0.0 = search rules in
    let answer = is ∙ sym c.in_err-check_arrows.was ∙ c.check_arrows.ensures in
    record { answer = answer; leaves = refused g.F.Fact.zero g.F.Fact.join c.args.arrows.now c.args.facts.now _ c.from_residual.result _ is answer refl; laws = spread_laws laws }

pub settle-requires : goal.settle-requires
settle-requires g c = verdict_inside _ c.args.arrows.now c.check_arrows.result c.check_arrows.ensures c.in_ok-check_arrows.was

pub returns : goal.returns
returns g c =
    let m = g.met.F.Fact in
    let laws = lattice m.assoc m.comm m.idem m.left in
    record {
      answer = sym c.in_ok-check_arrows.was ∙ c.check_arrows.ensures;
      leaves = record { inside = verdict_inside _ c.args.arrows.now c.check_arrows.result c.check_arrows.ensures c.in_ok-check_arrows.was; spread = c.settle.ensures };
      laws = spread_laws laws;
    }
