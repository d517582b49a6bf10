use Rattle.std.proofs.Common.{refl, ◌∙◌}
use Rattle.card_writer.proofs.Spelled.{bit_of_bool, begun}
use Rattle.tuchovai_c.proofs.Growing.{spelled8}
use Rattle.tuchovai_c.proofs.rows.MarkRowTableRow16.to_bytes.Goals as goal

pub returns : goal.returns
returns c =
    let r = c.args.self.now in
    begun c.from-kind.ensures c.number_of_wrap-wrap.ensures
    (begun (c.from-required.ensures ∙ bit_of_bool r.required) (c.from-dynamic.ensures ∙ bit_of_bool r.dynamic)
    (begun (c.from-awaiting.ensures ∙ bit_of_bool r.awaiting) refl
    (begun refl refl
    (spelled8 c.to_le_bytes.result r.entries c.to_le_bytes.ensures))))
