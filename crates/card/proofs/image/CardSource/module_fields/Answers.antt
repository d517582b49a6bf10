use Rattle.std.proofs.Common.{◌*◌, ◌+◌, ◌∙◌, arith}
use Rattle.card.specs.Passed.{accepted_from}
use Rattle.card.proofs.Cuts.{fields_part}
use Rattle.card.proofs.Found.{card_past, found_module}
use Rattle.card.proofs.image.CardSource.module_fields.Goals as goal

pub returns-then-m-u32_at : goal.returns-then-m-u32_at
returns-then-m-u32_at c = card_past c.args.self.now.image.now c.args.m (omega arith)

pub returns : goal.returns
returns c =
    let bs = c.args.self.now.image.now in
    found_module bs (accepted_from bs c.args.self.now.accepted) c.args.m (omega arith) c.bytes_at.result.now (c.bytes_at.ensures.bytes ∙ fields_part (16 + 24 * c.args.m) 20 bs) c.bytes_at.ensures.sized
