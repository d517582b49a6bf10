use Rattle.std.proofs.Common.{subst}
use Rattle.source.specs.Meaning.{count_of}
use Rattle.marks.specs.Passes.{Awaits}
use Rattle.ways.specs.Targets.{Filled}
use Rattle.tla.proofs.compute_tla.find_awaiting.Goals as goal

pub returns : goal.returns
returns g c = subst (λ s. Filled (count_of (g.S.ModuleSource.meaning s)) (Awaits (g.S.ModuleSource.meaning s)) c.spread_awaits.new.facts) c.new.ensures c.spread_awaits.ensures
