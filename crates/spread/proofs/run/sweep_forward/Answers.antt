use Rattle.std.proofs.Common.{◌+◌}
use Rattle.spread.specs.Sweep.{Until}
use Rattle.std.proofs.lemmas.Bool.{or_parts}
use Rattle.spread.proofs.Order.{lattice}
use Rattle.spread.proofs.Steps.{swept_step, until_split}
use Rattle.spread.proofs.run.sweep_forward.Goals as goal

pub loop-arrow-preserved : goal.loop-arrow-preserved
loop-arrow-preserved g c =
    let m = g.met.F.Fact in
    let laws = lattice m.assoc m.comm m.idem m.left in
    let i = c.loop-arrow.arrow-index in
    swept_step laws c.args.arrows.now (Until i) (Until (i + 1)) c.args.facts.now c.loop-arrow.facts c.carry-moved.new.facts c.loop-arrow.changed _ i c.loop-arrow-test.true (c.requires i c.loop-arrow-test.true) c.loop-arrow.invariant c.carry-moved.ensures.writes
    (λ e. let q = or_parts c.loop-arrow.changed c.carry-moved.result e in (c.carry-moved.ensures.still q.1, q.0))
    (until_split i)
