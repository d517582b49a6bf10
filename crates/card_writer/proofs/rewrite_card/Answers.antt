use Rattle.std.proofs.Common.{ltb, length, Ok, Err, sym, ap, ◌∙◌}
use Rattle.std.proofs.lemmas.Result.{err_from_is_err_and}
use Rattle.faults.specs.declared.Refusal.TheVariants.{WrongLength}
use Rattle.faults.specs.Faults.{Verdict, refuse_if, and_then}
use Rattle.card.specs.Cards.{card_fault, card_meaning, go_on}
use Rattle.card_writer.specs.Written.{rewritten_by}
use Rattle.card_writer.proofs.Told.{rewritten_answer, rewritten_left}
use Rattle.card_writer.proofs.rewrite_card.Goals as goal

pub returns-in_err-check_card : goal.returns-in_err-check_card
returns-in_err-check_card c =
    let p = err_from_is_err_and c.from_residual.result c.from_residual.ensures.1 in
    let size = length c.args.image.now in
    let room = length c.args.out.now in
    record {
      answer =
          p.1 ∙ ap Err p.2
          ∙ ap (λ (v : Verdict). go_on (and_then v (refuse_if (ltb room size) (card_fault WrongLength room))) (λ _. Ok size)) c.in_err-check_card.ensures.verdict;
      image = ap (λ r. rewritten_by r c.args.image.now c.args.out.now) (sym p.1);
    }

pub returns : goal.returns
returns c =
    let image = c.args.image.now in
    let w = card_meaning c.open.result.image.now in
    let verdict = sym c.in_ok-check_card.ensures.verdict in
    let exact = c.in_ok-check_card.ensures.exact in
    record {
      answer = rewritten_answer image w verdict c.open.ensures exact c.write_card.result (length c.args.out.now) c.write_card.ensures.answer;
      image = c.write_card.ensures.image ∙ rewritten_left image w verdict c.open.ensures exact c.write_card.result c.args.out.now;
    }
