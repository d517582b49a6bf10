use Rattle.std.proofs.Common.{refl, ◌∙◌}
use Rattle.card_writer.proofs.Spelled.{spelled4, bit_of_bool, begun}
use Rattle.tuchovai_c.proofs.rows.WrapperRowTableRow8.to_bytes.Goals as goal

pub returns : goal.returns
returns c =
    let r = c.args.self.now in
    begun c.number_of_wrap-wrap.ensures c.number_of_helper-helper.ensures
    (begun (c.from-eval.ensures ∙ bit_of_bool r.eval) refl
    (spelled4 c.to_le_bytes.result r.«module» c.to_le_bytes.ensures))
