use Rattle.std.proofs.Common.{◌+◌, ◌*◌, ◌<◌, map, length, refl, ap, ◌∙◌, subst, arith}
use Rattle.std.proofs.lemmas.List.{take_all}
use Rattle.std.proofs.ByRecursion.{All-more}
use Rattle.std.specs.List.{AllByRecursion, concat}
use Rattle.source.specs.Meaning.{past_modules}
use Rattle.card.specs.Cards.{all_records, encode_record}
use Rattle.card_writer.specs.Written.{put_at, SpansFit}
use Rattle.card_writer.proofs.Steps.{put_none, count_more, records_turn}
use Rattle.card_writer.proofs.write_records.Goals as goal

pub loop-m-init : goal.loop-m-init
loop-m-init g c = (refl, put_none c.args.out.now (16 + 24 * c.module_count.result), tt)

pub loop-m-preserved : goal.loop-m-preserved
loop-m-preserved g c =
    let ss = (g.S.ModuleSource.meaning c.args.source.now).modules in
    let m = c.loop-m.m in
    let lt : m < length ss = omega (arith, c.module_count-m-end.ensures) in (
      omega (arith, count_more ss m lt, c.record_count-done.ensures, c.loop-m.invariant.0),
      records_turn ss m (16 + 24 * c.module_count.result) c.loop-m.done c.args.out.now c.loop-m.out c.write_records_of.new.out
          lt (omega (arith, c.requires.room, c.module_count.ensures)) c.loop-m.invariant.1 c.loop-m.invariant.0 c.write_records_of.ensures.image,
      All-more SpansFit ss m past_modules lt c.loop-m.invariant.2 c.write_records_of.ensures.fits,
    )

pub returns : goal.returns
returns g c =
    let ss = (g.S.ModuleSource.meaning c.args.source.now).modules in
    let whole = take_all c.loop-m.m ss (omega (arith, c.module_count-m-end.ensures)) in
    record {
      image =
          c.loop-m.invariant.1
          ∙ ap (λ x. put_at c.args.out.now (16 + 24 * c.module_count.result) (concat (map encode_record (all_records x)))) whole
          ∙ ap (λ n. put_at c.args.out.now (16 + 24 * n) (concat (map encode_record (all_records ss)))) c.module_count.ensures;
      fits = subst (AllByRecursion SpansFit) whole c.loop-m.invariant.2;
    }
