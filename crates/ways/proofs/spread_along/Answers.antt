use Rattle.std.proofs.Common.{subst}
use Rattle.ways.specs.Ways.{Carried}
use Rattle.ways.proofs.spread_along.Goals as goal

pub returns : goal.returns
returns g c = subst (λ s. Carried g.F.Fact.zero g.F.Fact.join c.args.way (g.S.ModuleSource.meaning s) c.args.facts.now c.spread_linkable.new.facts) c.new.ensures c.spread_linkable.ensures
