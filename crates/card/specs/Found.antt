-- A block that the look-up by offset finds, by its fields.
--
--   FoundModule   the fields are those of the module at m
--   FoundRecord   the fields are those of its record at k
use Rattle.std.specs.Prelude.{◌≡◌, ℕ, ◌+◌, ◌*◌, ◌<◌, ◌≤◌, List, length, take, drop}
use Rattle.source.specs.Meaning.{module_at, records_in, record_at}
use Rattle.card.specs.Fields.{module_of, first_of, count_of, record_of}
use Rattle.card.specs.Cards.{fields_of, card_meaning, record_count, records_start}

pub record FoundModule (bs : List ℕ) (m : ℕ) (f : List ℕ) : Type 0 where
  pub sized : length f ≡ 20
  pub described : module_at (card_meaning bs) m ≡ module_of f
  pub counted : records_in (card_meaning bs) m ≡ count_of f
  pub within : first_of f + count_of f ≤ record_count bs
  pub placed : (k : ℕ) → k < count_of f → record_at (card_meaning bs) m k ≡ record_of (fields_of (take 18 (drop (records_start bs + 18 * (first_of f + k)) bs)))

pub record FoundRecord (bs : List ℕ) (m k : ℕ) (f : List ℕ) : Type 0 where
  pub sized : length f ≡ 14
  pub read : record_at (card_meaning bs) m k ≡ record_of f
