use Rattle.std.proofs.Common.{arith}
use Rattle.wrapping.proofs.Whole.{wrap_did}
use Rattle.wrapping.proofs.wraps.mark_wraps.Goals as goal

pub returns : goal.returns
returns g c =
    let w = g.S.ModuleSource.meaning c.args.source.now in
    wrap_did w c.args.rows.now c.write_wraps.new.rows c.args.flags.now c.args.facts.now c.clear.new.flags c.point_at.new.flags c.wrap_starts.new.facts c.spread_linkable.new.facts c.point_at.new.flags c.clear-2.new.flags c.point_at-2.new.flags
    (omega (arith, c.requires.facts, c.wrap_starts.auto.facts)) c.clear.ensures c.point_at.ensures c.wrap_starts.ensures c.spread_linkable.ensures c.clear-2.ensures c.point_at-2.ensures c.write_wraps.ensures

pub point_at-requires-clause-targets : goal.point_at-requires-clause-targets
point_at-requires-clause-targets g c = g.met.S.Linkable.targets c.args.source.now

pub point_at-requires-2-clause-targets : goal.point_at-requires-2-clause-targets
point_at-requires-2-clause-targets g c = g.met.S.Linkable.targets c.args.source.now
