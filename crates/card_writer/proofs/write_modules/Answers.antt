use Rattle.std.proofs.Common.{◌<◌, length, ap, ◌∙◌, subst, arith}
use Rattle.std.proofs.lemmas.List.{take_all}
use Rattle.std.proofs.ByRecursion.{All-more}
use Rattle.std.specs.List.{AllByRecursion, concat}
use Rattle.source.specs.declared.Module.{Module}
use Rattle.source.specs.Meaning.{past_modules}
use Rattle.card.specs.Cards.{encode_modules}
use Rattle.card.specs.Fields.{await_start, await_end}
use Rattle.card.specs.Writable.{Fits32}
use Rattle.card_writer.specs.Written.{put_at, AwaitFits}
use Rattle.card_writer.proofs.Steps.{count_more, module_turn}
use Rattle.card_writer.proofs.write_modules.Goals as goal

pub loop-m-preserved : goal.loop-m-preserved
loop-m-preserved g c =
    let ss = (g.S.ModuleSource.meaning c.args.source.now).modules in
    let m = c.loop-m.m in
    let lt : m < length ss = omega (arith, c.module_count-m-end.ensures) in (
      omega (arith, count_more ss m lt, c.record_count-count.ensures, c.loop-m.invariant.0),
      module_turn ss m c.args.out.now c.loop-m.out c.put.new.out c.module_block-block.result c.module.result c.loop-m.first c.record_count-count.result
          lt (omega (arith, c.requires.room)) c.loop-m.invariant.1 c.loop-m.invariant.0 c.record_count-count.ensures c.module.ensures c.module_block-block.ensures.bytes c.put.ensures,
      All-more AwaitFits ss m past_modules lt c.loop-m.invariant.2
          (subst (λ (d : Module). Fits32 (await_start d) × Fits32 (await_end d)) c.module.ensures (c.module_block-block.ensures.start, c.module_block-block.ensures.end)),
    )

pub returns : goal.returns
returns g c =
    let ss = (g.S.ModuleSource.meaning c.args.source.now).modules in
    let whole = take_all c.loop-m.m ss (omega (arith, c.module_count-m-end.ensures)) in
    record {
      image = c.loop-m.invariant.1 ∙ ap (λ x. put_at c.args.out.now 16 (concat (encode_modules 0 x))) whole;
      fits = subst (AllByRecursion AwaitFits) whole c.loop-m.invariant.2;
    }
