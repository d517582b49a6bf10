use Rattle.std.proofs.Common.{arith}
use Rattle.dynamic_exports.proofs.Whole.{star_did}
use Rattle.dynamic_exports.proofs.star.mark_dynamic.Goals as goal

pub returns : goal.returns
returns g c =
    let w = g.S.ModuleSource.meaning c.args.source.now in
    star_did w c.args.rows.now c.write_dynamic.new.rows c.open_ends.new.facts c.spread_linkable.new.facts c.clear.new.flags c.point_at.new.flags c.args.starred.now
    (omega (arith, c.requires.facts, c.open_ends.auto.facts)) (g.met.S.Linkable.targets c.args.source.now) c.open_ends.ensures c.spread_linkable.ensures c.clear.ensures c.point_at.ensures c.write_dynamic.ensures

pub point_at-requires-clause-targets : goal.point_at-requires-clause-targets
point_at-requires-clause-targets g c = g.met.S.Linkable.targets c.args.source.now
