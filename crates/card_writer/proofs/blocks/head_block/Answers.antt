use Rattle.std.proofs.Common.{ℕ, List, ◌∷◌, ap}
use Rattle.card.specs.Bytes.{le2}
use Rattle.card_writer.proofs.Spelled.{spelled4, two_more}
use Rattle.card_writer.proofs.blocks.head_block.Goals as goal

pub returns : goal.returns
unfolding le2
returns c =
    ap (λ (x : List ℕ). 16 ∷ 0 ∷ 1 ∷ 0 ∷ x)
    (two_more (spelled4 c.to_le_bytes.result c.args.runtime c.to_le_bytes.ensures)
    (two_more (spelled4 c.to_le_bytes-2.result c.args.modules c.to_le_bytes-2.ensures)
    (spelled4 c.to_le_bytes-3.result c.args.records c.to_le_bytes-3.ensures)))
