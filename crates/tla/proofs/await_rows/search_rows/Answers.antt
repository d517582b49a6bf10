use Rattle.std.proofs.Common.{sym, subst}
use Rattle.source.specs.Meaning.{count_of}
use Rattle.ways.specs.Targets.{flag}
use Rattle.tla.specs.Rows.{RowsWritten}
use Rattle.tla.specs.Once.{Known}
use Rattle.tla.proofs.Found.{all_rows}
use Rattle.tla.proofs.await_rows.search_rows.Goals as goal

pub write_rows-requires-clause-known : goal.write_rows-requires-clause-known
write_rows-requires-clause-known g c = subst (λ s. Known (g.S.ModuleSource.meaning s) (g.M.Memory.known c.args.memory.now)) (sym c.new-imports.ensures) c.requires.known

pub returns : goal.returns
returns g c =
    let source = c.args.source.now in
    let waits = flag c.args.facts.now in
    all_rows (g.S.ModuleSource.meaning source) waits c.args.list.now c.write_rows.new.list c.write_rows.result (g.S.ModuleSource.proper source) (g.met.S.Linkable.targets source) c.requires.waits c.write_rows.auto.list
    (subst (λ s. RowsWritten (g.S.ModuleSource.meaning s) waits (count_of (g.S.ModuleSource.meaning s)) c.args.list.now c.write_rows.new.list c.write_rows.result) c.new-imports.ensures c.write_rows.ensures)
