use Rattle.std.proofs.Common.{arith}
use Rattle.spread.proofs.Ranks.{ones_entries}
use Rattle.spread.proofs.entry_set.EntrySet.count.Goals as goal

pub returns : goal.returns
returns c = ones_entries c.args.self (omega arith)
