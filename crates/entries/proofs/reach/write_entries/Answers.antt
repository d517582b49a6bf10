use Rattle.std.proofs.Common.{rules}
use Rattle.marks.proofs.Writes.{written_front}
use Rattle.entries.proofs.reach.write_entries.Goals as goal

pub returns : goal.returns
returns g c = written_front c.module_count.ensures c.write_front.ensures.long (λ m d h. let e = c.write_front.ensures.each m d h in search rules) c.write_front.ensures.rest
