use Rattle.spread.proofs.Order.{lattice}
use Rattle.spread.proofs.Rounds.{rounds_none, rounds_more, rounds_still, rounds_all}
use Rattle.spread.proofs.run.settle.Goals as goal

pub loop-round-init : goal.loop-round-init
loop-round-init g c =
    let m = g.met.F.Fact in
    let laws = lattice m.assoc m.comm m.idem m.left in
    rounds_none laws c.args.arrows.now c.args.facts.now

pub returns-then-not-sweep : goal.returns-then-not-sweep
returns-then-not-sweep g c =
    let m = g.met.F.Fact in
    let laws = lattice m.assoc m.comm m.idem m.left in
    rounds_still laws c.args.arrows.now c.args.facts.now c.loop-round.facts c.sweep.new.facts c.loop-round.round c.loop-round.invariant
    c.if-not-sweep.ensures

pub loop-round-preserved : goal.loop-round-preserved
loop-round-preserved g c =
    let m = g.met.F.Fact in
    let laws = lattice m.assoc m.comm m.idem m.left in
    rounds_more laws c.args.arrows.now c.args.facts.now c.loop-round.facts c.sweep.new.facts c.loop-round.round c.sweep.result c.loop-round.invariant c.sweep.ensures

pub returns : goal.returns
returns g c =
    let m = g.met.F.Fact in
    let laws = lattice m.assoc m.comm m.idem m.left in
    rounds_all laws c.args.arrows.now c.args.facts.now c.loop-round.facts c.loop-round.round c.loop-round-test.false c.requires c.loop-round.invariant
