use Rattle.std.proofs.Common.{ap, ◌∙◌}
use Rattle.card.specs.Bytes.{le4}
use Rattle.card_writer.proofs.Spelled.{spelled4, two_more}
use Rattle.tuchovai_c.proofs.rows.bytes_of_head.Goals as goal

pub returns : goal.returns
returns c =
    two_more (spelled4 c.to_le_bytes.result c.args.marks c.to_le_bytes.ensures)
    (two_more (spelled4 c.to_le_bytes-2.result c.args.awaits c.to_le_bytes-2.ensures)
    (two_more (spelled4 c.to_le_bytes-3.result c.args.wrappers c.to_le_bytes-3.ensures)
    (spelled4 c.to_le_bytes-4.result c.args.length c.to_le_bytes-4.ensures ∙ ap le4 c.requires)))
