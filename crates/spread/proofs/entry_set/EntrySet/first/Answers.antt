use Rattle.std.proofs.Common.{arith, rules}
use Rattle.spread.proofs.Ranks.{trailing_lowest}
use Rattle.spread.proofs.entry_set.EntrySet.first.Goals as goal

pub returns-in_default : goal.returns-in_default
returns-in_default c = record { answer = search rules; least = trailing_lowest 64 c.args.self.0 (omega arith) (omega arith) }
