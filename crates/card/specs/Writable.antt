-- Which meanings a card can hold.
--
--   Fits32           a number that four bytes hold
--   RecordFits, ModuleFits   the numbers of a record and of a module fit, targets are below 2^32 - 1, and an external
--                    module has no records
--   Writable         so for each module, within the limits
--   Exact            an image is accepted exactly where a writable meaning has these bytes, and that is what it means
use Rattle.std.specs.Prelude.{◌≡◌, ℕ, ◌<◌, ◌≤◌, List, [], length, Ok}
use Rattle.std.specs.List.{AllByRecursion}
use Rattle.faults.specs.Faults.{Verdict}
use Rattle.source.specs.declared.ImportRecord.{ImportRecord}
use Rattle.source.specs.declared.Module.TheVariants.{External}
use Rattle.source.specs.Meaning.{Meaning, Scanned}
use Rattle.source.specs.Numbers.{module_limit, record_limit}
use Rattle.card.specs.Fields.{await_start, await_end}
use Rattle.card.specs.Cards.{card_meaning, all_records, encode}
use Rattle.card.specs.Passed.{Resolved}

abbrev pub Fits32 : ℕ → Type 0
Fits32 n = n < 4294967296

pub record RecordFits (r : ImportRecord) : Type 0 where
  pub target : Resolved r
  pub start : Fits32 r.span.start
  pub end : Fits32 r.span.end

pub record ModuleFits (s : Scanned) : Type 0 where
  pub start : Fits32 (await_start s.described)
  pub end : Fits32 (await_end s.described)
  pub blank : s.described ≡ External → s.records ≡ []
  pub records : AllByRecursion RecordFits s.records

pub record Writable (w : Meaning) : Type 0 where
  pub runtime : Fits32 w.runtime
  pub few_modules : length w.modules ≤ module_limit
  pub few_records : length (all_records w.modules) ≤ record_limit
  pub modules : AllByRecursion ModuleFits w.modules

pub record Exact (bs : List ℕ) (answer : Verdict) : Type 0 where
  pub held : answer ≡ Ok tt → Writable (card_meaning bs) × (encode (card_meaning bs) ≡ bs)
  pub only : (w : Meaning) → Writable w → encode w ≡ bs → (answer ≡ Ok tt) × (card_meaning bs ≡ w)
