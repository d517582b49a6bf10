use Rattle.std.proofs.Common.{◌≡◌, map, take}
use Rattle.std.specs.List.{AllByRecursion, concat}
use Rattle.source.specs.Meaning.{records_of}
use Rattle.card.specs.Cards.{encode_record}
use Rattle.card_writer.specs.Written.{put_at, SpanFits}
use Rattle.card_writer.proofs.write_records_of.Given as goal

abbrev pub invariant-loop-k : goal.invariant-loop-k
invariant-loop-k g l =
    let done = take l.k (records_of (g.S.ModuleSource.meaning l.source) l.m) in
    (l.out ≡ put_at l.initial.out l.at (concat (map encode_record done))) × AllByRecursion SpanFits done
