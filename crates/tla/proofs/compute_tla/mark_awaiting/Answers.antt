use Rattle.std.proofs.Common.{rules}
use Rattle.source.specs.Meaning.{count_of}
use Rattle.marks.specs.Rows.{Written}
use Rattle.marks.proofs.Writes.{written_front}
use Rattle.tla.specs.Awaiting.{AwaitingRow}
use Rattle.tla.proofs.Whole.{await_did}
use Rattle.tla.proofs.compute_tla.mark_awaiting.Goals as goal

pub returns : goal.returns
returns g c =
    let w = g.S.ModuleSource.meaning c.args.source.now in
    let facts = c.args.facts.now in
    let written : Written (count_of w) (AwaitingRow facts) c.args.rows.now c.write_front.new.items =
    written_front c.module_count.ensures c.write_front.ensures.long (λ m d h. let e = c.write_front.ensures.each m d h in search rules) c.write_front.ensures.rest in
    await_did w facts c.args.rows.now c.write_front.new.items c.requires.waits written
