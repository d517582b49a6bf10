-- What a source of modules stands for, and what each question about it is answered.
--
--   Scanned         a module as it was scanned: its description, and its records in their order
--   Meaning         the runtime's number, and the modules by number
--   Proper          an external module has no records; every target is below 2^32 - 1
--   count_of        how many modules there are
--   record_total    how many records there are, over all modules
--   module_at, records_of, records_in, record_at, look_at   the look-ups: a module's description, its records,
--                   their number, one of them, and that one's kind and target together
--   no_modules      what stands for input that a check refuses: no modules, and 0 for the runtime
--   past_modules    what a look-up finds past the last module: an external one
--   past_records    what it finds past the last record: an unresolved `HotAccept` at 0 to 0 without star
use Rattle.std.specs.Prelude.{◌≡◌, ℕ, ◌-◌, ◌^◌, ◌<◌, false, List, [], length, sum_by, Some, None, Option, slice_index_or}
use Rattle.source.specs.declared.ImportKind.{ImportKind}
use Rattle.source.specs.declared.ImportKind.TheVariants.{HotAccept}
use Rattle.source.specs.declared.ImportRecord.{ImportRecord}
use Rattle.source.specs.declared.Module.{Module}
use Rattle.source.specs.declared.Module.TheVariants.{External}

pub record Scanned : Type 0 where
  pub described : Module
  pub records : List ImportRecord

pub record Meaning : Type 0 where
  pub runtime : ℕ
  pub modules : List Scanned

abbrev pub no_modules : Meaning
no_modules = record { runtime = 0; modules = [] }

abbrev pub past_modules : Scanned
past_modules = record { described = External; records = [] }

abbrev pub past_records : ImportRecord
past_records = record { kind = HotAccept; target = None; star = false; span = record { start = 0; end = 0 } }

abbrev pub count_of : Meaning → ℕ
count_of w = length w.modules

abbrev pub scanned_at : Meaning → ℕ → Scanned
scanned_at w m = slice_index_or w.modules m past_modules

abbrev pub record_total : Meaning → ℕ
record_total w = sum_by (λ (s : Scanned). length s.records) w.modules

abbrev pub module_at : Meaning → ℕ → Module
module_at w m = (scanned_at w m).described

abbrev pub records_of : Meaning → ℕ → List ImportRecord
records_of w m = (scanned_at w m).records

abbrev pub records_in : Meaning → ℕ → ℕ
records_in w m = length (records_of w m)

abbrev pub record_at : Meaning → ℕ → ℕ → ImportRecord
record_at w m k = slice_index_or (records_of w m) k past_records

abbrev pub look_at : Meaning → ℕ → ℕ → ImportKind × Option ℕ
look_at w m k = ((record_at w m k).kind, (record_at w m k).target)

pub record Proper (w : Meaning) : Type 0 where
  pub blank : (m : ℕ) → module_at w m ≡ External → records_of w m ≡ []
  pub targets : (m k t : ℕ) → (record_at w m k).target ≡ Some t → t < 2 ^ 32 - 1
