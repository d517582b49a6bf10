-- What a file holds, as a source.
--
--   held_verdict   the first fault of what a file holds, or accepted
--   held_meaning   the source that a file holds; no modules where it has a fault
--   open_meaning   what a source of either kind stands for
--   open_proper    its external modules have no records, and its targets are below 2^32 - 1
use Rattle.faults.specs.Faults.{Verdict}
use Rattle.source.specs.Meaning.{Meaning, Proper}
use Rattle.row_source.specs.Checks.{rows_verdict}
use Rattle.row_source.specs.Rows.{rows_meaning, opened}
use Rattle.row_source.specs.Propers.{rows_proper}
use Rattle.card.specs.Cards.{card_verdict, card_meaning, card_opened}
use Rattle.card.specs.Passed.{card_proper}
use Rattle.commands.specs.declared.sources.Contents.{Contents}
use Rattle.commands.specs.declared.sources.Contents.TheVariants as held
use Rattle.commands.specs.declared.sources.OpenSource.{OpenSource}
use Rattle.commands.specs.declared.sources.OpenSource.TheVariants as opened_as

abbrev pub held_verdict : Contents → Verdict
held_verdict (held.Rows table) = rows_verdict table.modules.items table.records.items
held_verdict (held.Image image) = card_verdict image.items

abbrev pub held_meaning : Contents → Meaning
held_meaning (held.Rows table) = opened table.runtime table.modules.items table.records.items
held_meaning (held.Image image) = card_opened image.items

abbrev pub open_meaning : OpenSource → Meaning
open_meaning (opened_as.Rows s) = rows_meaning s.runtime s.modules.now s.records.now
open_meaning (opened_as.Card s) = card_meaning s.image.now

pub open_proper : (s : OpenSource) → Proper (open_meaning s)
open_proper (opened_as.Rows s) = rows_proper s.runtime s.modules.now s.records.now s.accepted
open_proper (opened_as.Card s) = card_proper s.image.now s.accepted
