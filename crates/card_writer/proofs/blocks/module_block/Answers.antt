use Rattle.std.proofs.Common.{ℕ, List, ◌∷◌, ap, ◌∙◌}
use Rattle.card.specs.Bytes.{le2, le4}
use Rattle.card_writer.proofs.Spelled.{spelled2, spelled4, two_more, begun}
use Rattle.card_writer.proofs.blocks.module_block.Goals as goal

pub returns-clause-bytes : goal.returns-clause-bytes
unfolding le2
returns-clause-bytes c =
    let d = c.fields_of-class.result in
    let is = c.fields_of-class.ensures in
    ap (λ (x : List ℕ). 24 ∷ 0 ∷ 2 ∷ 0 ∷ x)
    (begun is.class is.scanned
    (two_more (spelled2 c.to_le_bytes.result d.flags c.to_le_bytes.ensures ∙ ap le2 is.flags)
    (two_more (spelled4 c.to_le_bytes-2.result d.await_span.start c.to_le_bytes-2.ensures ∙ ap le4 is.start)
    (two_more (spelled4 c.to_le_bytes-3.result d.await_span.end c.to_le_bytes-3.ensures ∙ ap le4 is.end)
    (two_more (spelled4 c.to_le_bytes-4.result c.args.first c.to_le_bytes-4.ensures)
    (spelled4 c.to_le_bytes-5.result c.args.count c.to_le_bytes-5.ensures))))))
