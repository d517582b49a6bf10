use Rattle.std.proofs.Common.{arith}
use Rattle.tla.proofs.Whole.{facts_say}
use Rattle.tla.proofs.compute_tla.spread_awaits.Goals as goal

pub returns : goal.returns
returns g c =
    facts_say (g.S.ModuleSource.meaning c.args.source.now) c.own_awaits.new.facts c.spread_linkable.new.facts (omega (arith, c.requires.facts, c.own_awaits.auto.facts)) (g.met.S.Linkable.targets c.args.source.now) c.own_awaits.ensures c.spread_linkable.ensures
