use Rattle.std.proofs.Common.{◌≡◌, false, is_ok, sym, refl, ap, ◌∙◌}
use Rattle.std.proofs.lemmas.Bool.{cond-false}
use Rattle.card.specs.Bytes.{u16_le, u32_le}
use Rattle.source.specs.Meaning.{no_modules}
use Rattle.card.specs.Cards.{is_card, card_meaning}
use Rattle.card.proofs.image.CardSource.open.Goals as goal

pub invariant_of-result-2 : goal.invariant_of-result-2
unfolding u16_le u32_le
invariant_of-result-2 c = record { accepted = refl; whole = refl }

pub returns : goal.returns
unfolding u16_le u32_le
returns c =
    let bs = c.args.image.now in
    let refused : is_card bs ≡ false = ap is_ok (sym c.check_card.ensures.verdict) ∙ sym c.is_ok.ensures.value ∙ c.if-is_ok.false in
    sym (cond-false (is_card bs) (card_meaning bs) no_modules refused)
