-- The bytes of a table of marks and rows. Numbers are little-endian.
--
--   mark_bytes, await_bytes, wrapper_bytes   the bytes of one row
--   table_length   how many bytes the table has
--   head_bytes     how many rows of each kind there are, and the table's length
--   table_room     how many bytes are enough for the table of a card; 0 for an image that is refused
--   table_bytes    the head, then the rows of each kind
use Rattle.std.specs.Prelude.{ℕ, ◌+◌, ◌*◌, ◌/◌, ◌%◌, cond, List, ◌∷◌, ◌++◌, map, length}
use Rattle.source.specs.Meaning.{count_of, record_total}
use Rattle.source.specs.Numbers.{exports_number}
use Rattle.marks.specs.declared.rows.AwaitRow.{AwaitRow}
use Rattle.marks.specs.declared.rows.MarkRow.{MarkRow}
use Rattle.marks.specs.declared.rows.WrapperRow.{WrapperRow}
use Rattle.std.specs.List.{concat}
use Rattle.card.specs.Bytes.{le4}
use Rattle.card.specs.Cards.{is_card, card_meaning}
use Rattle.card.specs.Fields.{bit}
use Rattle.tuchovai_c.specs.Numbers.{wrap_number, helper_number}

abbrev pub mark_bytes : MarkRow → List ℕ
mark_bytes r =
    exports_number r.kind ∷ wrap_number r.wrap ∷ bit r.required ∷ bit r.dynamic ∷ bit r.awaiting ∷ 0 ∷ 0 ∷ 0
    ∷ (le4 (r.entries % 4294967296) ++ le4 (r.entries / 4294967296))

abbrev pub await_bytes : AwaitRow → List ℕ
await_bytes r =
    le4 r.importer ++ (le4 r.«record» ++ (le4 r.source ++ (le4 r.span.start ++ (le4 r.span.end ++ (le4 r.await_span.start ++ le4 r.await_span.end)))))

abbrev pub wrapper_bytes : WrapperRow → List ℕ
wrapper_bytes r = wrap_number r.wrap ∷ helper_number r.helper ∷ bit r.eval ∷ 0 ∷ le4 r.«module»

abbrev pub table_length : ℕ → ℕ → ℕ → ℕ
table_length marks awaits wrappers = 16 + 16 * marks + 28 * awaits + 8 * wrappers

abbrev pub table_room : List ℕ → ℕ
table_room image = cond (is_card image) (16 + 24 * count_of (card_meaning image) + 28 * record_total (card_meaning image)) 0

abbrev pub head_bytes : ℕ → ℕ → ℕ → List ℕ
head_bytes marks awaits wrappers = le4 marks ++ (le4 awaits ++ (le4 wrappers ++ le4 (table_length marks awaits wrappers)))

abbrev pub table_bytes : List MarkRow → List AwaitRow → List WrapperRow → List ℕ
table_bytes marks awaits wrappers =
    head_bytes (length marks) (length awaits) (length wrappers)
    ++ (concat (map mark_bytes marks) ++ (concat (map await_bytes awaits) ++ concat (map wrapper_bytes wrappers)))
