-- A card: a head of 16 bytes, a block of 24 for each module, a block of 18 for each record.
--
--   module_count, record_count, records_start, card_size   what the head says, and what follows from it
--   module_blocks, record_blocks, fields_of   the blocks, and a block without its length and kind
--   block_record, block_scanned   the record, and the module with its records, that a block stands for
--   card_meaning     what an accepted card stands for: a module has `count` records from `first` on
--   card_fault       a fault that the card's layer finds
--   go_on            what follows an answer that is no fault
--   head_wrong       a block's length or kind is another one
--   head_verdict, module_verdict, record_verdict   the first fault of the head, of a module's block, of a record's
--   module_end, modules_end   where the records of a module, and of the last one, end, or the first fault
--   records_verdict, blocks_verdict   the first fault of the record blocks, and of all blocks with the last sum
--   card_verdict     the first fault of an image, or accepted
--   is_card          whether it is accepted
--   card_opened      what any image opens as: one that is refused as no modules and runtime 0
--   block            a block with its length and kind
--   all_records      the records of all modules, one after another
--   encode_head, encode_modules, encode_record, encode   the bytes of the head, of each module, of a record, of all
use Rattle.std.specs.Prelude.{ℕ, ◌+◌, ◌*◌, Bool, cond, not, ◌&&◌, List, [], ◌∷◌, ◌++◌, map, length, take, drop, is_ok, Ok, Err, Result, ◌==◌, nat_lt}
use Rattle.faults.specs.declared.Fault.{Fault}
use Rattle.faults.specs.declared.Layer.TheVariants.{Card}
use Rattle.faults.specs.declared.Refusal.{Refusal}
use Rattle.faults.specs.declared.Refusal.TheVariants.{TooManyModules, TooManyRecords, WrongLength, WrongBlockHead, FieldOutOfValues, WrongFirstRecord}
use Rattle.faults.specs.Faults.{Verdict, fault, refuse_if, and_then}
use Rattle.source.specs.declared.ImportRecord.{ImportRecord}
use Rattle.source.specs.Meaning.{Meaning, Scanned, no_modules}
use Rattle.source.specs.Numbers.{module_limit, record_limit}
use Rattle.std.specs.List.{concat}
use Rattle.std.specs.Simd.{first_chunks}
use Rattle.card.specs.Bytes.{u16_le, u32_le, le2, le4}
use Rattle.card.specs.Fields.{module_of, first_of, count_of, record_of, module_fields, record_fields, module_wrong, record_wrong}

abbrev pub module_count : List ℕ → ℕ
module_count bs = u32_le bs 8

abbrev pub record_count : List ℕ → ℕ
record_count bs = u32_le bs 12

abbrev pub records_start : List ℕ → ℕ
records_start bs = 16 + 24 * module_count bs

abbrev pub card_size : List ℕ → ℕ
card_size bs = records_start bs + 18 * record_count bs

abbrev pub module_blocks : List ℕ → List (List ℕ)
module_blocks bs = first_chunks 24 (module_count bs) (drop 16 bs)

abbrev pub record_blocks : List ℕ → List (List ℕ)
record_blocks bs = first_chunks 18 (record_count bs) (drop (records_start bs) bs)

abbrev pub fields_of : List ℕ → List ℕ
fields_of b = drop 4 b

-- what the image means

abbrev pub block_record : List ℕ → ImportRecord
block_record b = record_of (fields_of b)

abbrev pub block_scanned : List ImportRecord → List ℕ → Scanned
block_scanned rs b =
    record { described = module_of (fields_of b); records = take (count_of (fields_of b)) (drop (first_of (fields_of b)) rs) }

abbrev pub card_meaning : List ℕ → Meaning
card_meaning bs = record { runtime = u32_le bs 4; modules = map (block_scanned (map block_record (record_blocks bs))) (module_blocks bs) }

-- what is wrong with it

abbrev pub card_fault : Refusal → ℕ → Fault
card_fault rule at = fault rule Card at 0

abbrev pub go_on : {A B : Type 0} → Result A Fault → (A → Result B Fault) → Result B Fault
go_on (Ok a) next = next a
go_on (Err f) next = Err f

abbrev pub head_wrong : ℕ → ℕ → List ℕ → Bool
head_wrong size kind b = not (u16_le b 0 == size && u16_le b 2 == kind)

abbrev pub head_verdict : List ℕ → Verdict
head_verdict bs =
    and_then (refuse_if (nat_lt (length bs) 16) (card_fault WrongLength (length bs)))
    (and_then (refuse_if (head_wrong 16 1 bs) (card_fault WrongBlockHead 0))
    (and_then (refuse_if (nat_lt module_limit (module_count bs)) (card_fault TooManyModules 0))
    (and_then (refuse_if (nat_lt record_limit (record_count bs)) (card_fault TooManyRecords 0))
    (refuse_if (not (length bs == card_size bs)) (card_fault WrongLength (length bs))))))

abbrev pub module_verdict : ℕ → ℕ → List ℕ → Verdict
module_verdict m next b =
    and_then (refuse_if (head_wrong 24 2 b) (card_fault WrongBlockHead (16 + 24 * m)))
    (and_then (refuse_if (module_wrong (fields_of b)) (card_fault FieldOutOfValues (16 + 24 * m)))
    (refuse_if (not (first_of (fields_of b) == next)) (card_fault WrongFirstRecord m)))

-- where the records of the module at m end, which must begin at `next`, and those of the last module
abbrev pub module_end : ℕ → ℕ → List ℕ → Result ℕ Fault
module_end m next b = go_on (module_verdict m next b) (λ _. Ok (next + count_of (fields_of b)))

abbrev pub modules_end : ℕ → ℕ → List (List ℕ) → Result ℕ Fault
modules_end m next [] = Ok next
modules_end m next (b ∷ bs) = go_on (module_end m next b) (λ end. modules_end (m + 1) end bs)

abbrev pub record_verdict : ℕ → List ℕ → Verdict
record_verdict at b =
    and_then (refuse_if (head_wrong 18 3 b) (card_fault WrongBlockHead at))
    (refuse_if (record_wrong (fields_of b)) (card_fault FieldOutOfValues at))

abbrev pub records_verdict : ℕ → ℕ → List (List ℕ) → Verdict
records_verdict start r [] = Ok tt
records_verdict start r (b ∷ bs) = and_then (record_verdict (start + 18 * r) b) (records_verdict start (r + 1) bs)

abbrev pub blocks_verdict : List ℕ → Verdict
blocks_verdict bs = go_on (modules_end 0 0 (module_blocks bs)) (λ end.
    and_then (records_verdict (records_start bs) 0 (record_blocks bs))
    (refuse_if (not (end == record_count bs)) (card_fault WrongFirstRecord (module_count bs))))

abbrev pub card_verdict : List ℕ → Verdict
card_verdict bs = and_then (head_verdict bs) (blocks_verdict bs)

abbrev pub is_card : List ℕ → Bool
is_card bs = is_ok (card_verdict bs)

abbrev pub card_opened : List ℕ → Meaning
card_opened bs = cond (is_card bs) (card_meaning bs) no_modules

-- the image of a meaning

abbrev pub block : ℕ → ℕ → List ℕ → List ℕ
block size kind fields = le2 size ++ (le2 kind ++ fields)

abbrev pub all_records : List Scanned → List ImportRecord
all_records [] = []
all_records (s ∷ ss) = s.records ++ all_records ss

abbrev pub encode_head : Meaning → List ℕ
encode_head w = block 16 1 (le4 w.runtime ++ (le4 (length w.modules) ++ le4 (length (all_records w.modules))))

abbrev pub encode_modules : ℕ → List Scanned → List (List ℕ)
encode_modules first [] = []
encode_modules first (s ∷ ss) =
    block 24 2 (module_fields s.described first (length s.records)) ∷ encode_modules (first + length s.records) ss

abbrev pub encode_record : ImportRecord → List ℕ
encode_record r = block 18 3 (record_fields r)

abbrev pub encode : Meaning → List ℕ
encode w = encode_head w ++ (concat (encode_modules 0 w.modules) ++ concat (map encode_record (all_records w.modules)))
