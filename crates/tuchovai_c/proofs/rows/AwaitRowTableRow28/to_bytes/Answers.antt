use Rattle.card_writer.proofs.Spelled.{spelled4, two_more}
use Rattle.tuchovai_c.proofs.rows.AwaitRowTableRow28.to_bytes.Goals as goal

pub returns : goal.returns
returns c =
    let r = c.args.self.now in
    two_more (spelled4 c.to_le_bytes.result r.importer c.to_le_bytes.ensures)
    (two_more (spelled4 c.to_le_bytes-2.result r.«record» c.to_le_bytes-2.ensures)
    (two_more (spelled4 c.to_le_bytes-3.result r.source c.to_le_bytes-3.ensures)
    (two_more (spelled4 c.to_le_bytes-4.result r.span.start c.to_le_bytes-4.ensures)
    (two_more (spelled4 c.to_le_bytes-5.result r.span.end c.to_le_bytes-5.ensures)
    (two_more (spelled4 c.to_le_bytes-6.result r.await_span.start c.to_le_bytes-6.ensures)
    (spelled4 c.to_le_bytes-7.result r.await_span.end c.to_le_bytes-7.ensures))))))
