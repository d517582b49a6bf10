use Rattle.std.proofs.Common.{◌≡◌, map, length, take}
use Rattle.std.specs.List.{AllByRecursion, concat}
use Rattle.card.specs.Cards.{all_records, encode_record}
use Rattle.card_writer.specs.Written.{put_at, SpansFit}
use Rattle.card_writer.proofs.write_records.Given as goal

abbrev pub invariant-loop-m : goal.invariant-loop-m
invariant-loop-m g l =
    let before = take l.m (g.S.ModuleSource.meaning l.source).modules in
    (l.done ≡ length (all_records before)) × (l.out ≡ put_at l.initial.out l.start (concat (map encode_record (all_records before)))) × AllByRecursion SpansFit before
