use Rattle.std.proofs.Common.{ℕ, List, ◌∷◌, ap, ◌∙◌}
use Rattle.card.specs.Bytes.{le2, le4}
use Rattle.card_writer.proofs.Spelled.{spelled4, bit_of_bool, target_or_none, two_more, begun}
use Rattle.card_writer.proofs.blocks.record_block.Goals as goal

pub returns-clause-bytes : goal.returns-clause-bytes
unfolding le2
returns-clause-bytes c =
    let r = c.args.record in
    ap (λ (x : List ℕ). 18 ∷ 0 ∷ 3 ∷ 0 ∷ x)
    (begun c.from-kind.ensures (c.from-star.ensures ∙ bit_of_bool r.star)
    (two_more (spelled4 c.to_le_bytes.result c.unwrap_or.result c.to_le_bytes.ensures ∙ ap le4 (c.unwrap_or.ensures ∙ target_or_none r.target))
    (two_more (spelled4 c.to_le_bytes-2.result r.span.start c.to_le_bytes-2.ensures)
    (spelled4 c.to_le_bytes-3.result r.span.end c.to_le_bytes-3.ensures))))
