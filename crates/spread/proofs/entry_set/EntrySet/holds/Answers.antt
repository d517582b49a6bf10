use Rattle.std.proofs.Common.{◌/◌, ◌%◌, ◌^◌, sym, ◌∙◌, arith}
use Rattle.std.proofs.lemmas.Bool.{le-ltb, ne_eqb}
use Rattle.spread.proofs.Ranks.{none_past}
use Rattle.spread.proofs.entry_set.EntrySet.holds.Goals as goal

pub returns-else-rank-lt64 : goal.returns-else-rank-lt64
returns-else-rank-lt64 c = le-ltb c.args.rank 64 c.if-rank-lt64.false ∙ sym (ne_eqb (c.args.self.0 / 2 ^ c.args.rank % 2) 1 (none_past 64 c.args.self.0 c.args.rank (omega arith) c.if-rank-lt64.false))
