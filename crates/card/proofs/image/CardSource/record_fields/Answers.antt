use Rattle.std.proofs.Common.{◌≡◌, ℕ, ◌+◌, ◌*◌, take, drop, sym, ap, ◌∙◌, arith}
use Rattle.std.proofs.lemmas.List.{get_or_past}
use Rattle.source.specs.Meaning.{records_of, past_records}
use Rattle.card.specs.Fields.{first_of, record_of}
use Rattle.card.specs.Cards.{fields_of, card_meaning, records_start}
use Rattle.card.proofs.Cuts.{fields_part}
use Rattle.card.proofs.image.CardSource.record_fields.Goals as goal

pub returns-then-k-u32_at : goal.returns-then-k-u32_at
returns-then-k-u32_at c =
    get_or_past (records_of (card_meaning c.args.self.now.image.now) c.args.m) c.args.k past_records (omega (arith, c.in_ok-module.ensures.counted))

pub returns : goal.returns
returns c =
    let bs = c.args.self.now.image.now in
    let f = c.in_ok-module.module.now in
    let r : records_start bs + 18 * (first_of f + c.args.k) ≡ 16 + 24 * c.u32_at-3.result + 18 * (c.u32_at-2.result + c.args.k) = omega arith in
    record {
      sized = c.bytes_at.ensures.sized;
      read =
          c.in_ok-module.ensures.placed c.args.k (omega arith)
          ∙ ap (λ (at : ℕ). record_of (fields_of (take 18 (drop at bs)))) r
          ∙ ap record_of (sym (c.bytes_at.ensures.bytes ∙ fields_part (16 + 24 * c.u32_at-3.result + 18 * (c.u32_at-2.result + c.args.k)) 14 bs));
    }
