use Rattle.std.proofs.Common.{◌<◌, map, length, ap, ◌∙◌, subst, arith}
use Rattle.std.proofs.lemmas.List.{take_all}
use Rattle.std.proofs.ByRecursion.{All-more}
use Rattle.std.specs.List.{AllByRecursion, concat}
use Rattle.source.specs.Meaning.{records_of, past_records}
use Rattle.card.specs.Cards.{encode_record}
use Rattle.card_writer.specs.Written.{put_at, SpanFits}
use Rattle.card_writer.proofs.Steps.{put_none, record_turn}
use Rattle.card_writer.proofs.write_records_of.Goals as goal

pub loop-k-init : goal.loop-k-init
loop-k-init g c = (put_none c.args.out.now c.args.at, tt)

pub loop-k-preserved : goal.loop-k-preserved
loop-k-preserved g c =
    let rs = records_of (g.S.ModuleSource.meaning c.args.source.now) c.args.m in
    let k = c.loop-k.k in
    let lt : k < length rs = omega (arith, c.record_count-k-end.ensures) in (
      record_turn rs k c.args.at c.args.out.now c.loop-k.out c.put.new.out c.record_block-block.result c.record.result
          lt (omega (arith, c.requires)) c.loop-k.invariant.0 c.record.ensures c.record_block-block.ensures.bytes c.put.ensures,
      All-more SpanFits rs k past_records lt c.loop-k.invariant.1
          (subst SpanFits c.record.ensures (c.record_block-block.ensures.start, c.record_block-block.ensures.end)),
    )

pub returns : goal.returns
returns g c =
    let rs = records_of (g.S.ModuleSource.meaning c.args.source.now) c.args.m in
    let whole = take_all c.loop-k.k rs (omega (arith, c.record_count-k-end.ensures)) in
    record {
      image = c.loop-k.invariant.0 ∙ ap (λ x. put_at c.args.out.now c.args.at (concat (map encode_record x))) whole;
      fits = subst (AllByRecursion SpanFits) whole c.loop-k.invariant.1;
    }
