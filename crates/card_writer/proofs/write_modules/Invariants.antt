use Rattle.std.proofs.Common.{◌≡◌, length, take}
use Rattle.std.specs.List.{AllByRecursion, concat}
use Rattle.card.specs.Cards.{all_records, encode_modules}
use Rattle.card_writer.specs.Written.{put_at, AwaitFits}
use Rattle.card_writer.proofs.write_modules.Given as goal

abbrev pub invariant-loop-m : goal.invariant-loop-m
invariant-loop-m g l =
    let done = take l.m (g.S.ModuleSource.meaning l.source).modules in
    (l.first ≡ length (all_records done)) × (l.out ≡ put_at l.initial.out 16 (concat (encode_modules 0 done))) × AllByRecursion AwaitFits done
