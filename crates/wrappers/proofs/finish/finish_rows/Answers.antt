use Rattle.std.proofs.Common.{rules}
use Rattle.source.specs.Meaning.{count_of}
use Rattle.marks.specs.Rows.{Written}
use Rattle.marks.proofs.Writes.{written_front}
use Rattle.wrappers.specs.Wrappers.{StrictRow}
use Rattle.wrappers.proofs.finish.finish_rows.Goals as goal

pub returns : goal.returns
returns g c =
    let w = g.S.ModuleSource.meaning c.args.source.now in
    let written : Written (count_of w) (StrictRow w c.args.options) c.args.rows.now c.write_front.new.items =
    written_front c.module_count.ensures c.write_front.ensures.long (λ m d h. let e = c.write_front.ensures.each m d h in search rules) c.write_front.ensures.rest in
    search rules
