-- What it takes for an image to be accepted.
--
--   ModuleBlock    the block is a module's, with no wrong field, whose records begin at a number
--   Chained        the blocks are such, and the records of each begin where those of the one before end, from one number
--                  on up to another
--   RecordBlock    the block is a record's, with no wrong field
--   Accepted       the head, the limits, the length, the module blocks and the record blocks are as they should be
use Rattle.std.specs.Prelude.{◌≡◌, ℕ, ◌+◌, ◌≤◌, false, List, [], ◌∷◌, length}
use Rattle.std.specs.List.{AllByRecursion}
use Rattle.source.specs.Numbers.{module_limit, record_limit}
use Rattle.card.specs.Fields.{first_of, count_of, module_wrong, record_wrong}
use Rattle.card.specs.Cards.{fields_of, head_wrong, module_count, record_count, card_size, module_blocks, record_blocks}

pub record ModuleBlock (next : ℕ) (b : List ℕ) : Type 0 where
  pub head : head_wrong 24 2 b ≡ false
  pub fields : module_wrong (fields_of b) ≡ false
  pub first : first_of (fields_of b) ≡ next

abbrev pub Chained : ℕ → List (List ℕ) → ℕ → Type 0
Chained next [] end = next ≡ end
Chained next (b ∷ bs) end = ModuleBlock next b × Chained (next + count_of (fields_of b)) bs end

pub record RecordBlock (b : List ℕ) : Type 0 where
  pub head : head_wrong 18 3 b ≡ false
  pub fields : record_wrong (fields_of b) ≡ false

pub record Accepted (bs : List ℕ) : Type 0 where
  pub head : head_wrong 16 1 bs ≡ false
  pub few_modules : module_count bs ≤ module_limit
  pub few_records : record_count bs ≤ record_limit
  pub size : length bs ≡ card_size bs
  pub modules : Chained 0 (module_blocks bs) (record_count bs)
  pub records : AllByRecursion RecordBlock (record_blocks bs)
