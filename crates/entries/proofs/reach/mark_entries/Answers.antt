use Rattle.std.proofs.Common.{arith}
use Rattle.entries.proofs.Whole.{entries_did}
use Rattle.entries.proofs.reach.mark_entries.Goals as goal

pub returns : goal.returns
returns g c =
    let w = g.S.ModuleSource.meaning c.args.source.now in
    entries_did w c.args.rows.now c.write_entries.new.rows c.entry_starts.new.facts c.spread_linkable.new.facts
    (omega (arith, c.requires.facts, c.entry_starts.auto.facts)) c.requires.few c.entry_starts.ensures c.spread_linkable.ensures c.write_entries.ensures
