-- An answer depends on which rows there are, and neither on their order nor on how often a row is given.
--
--   SameRows     the same rows occur in both lists
--   given        the answer, unless it is a refusal, which names the first row at fault and so goes by their order
--   OfRows       a question of one list of rows has the same answer for all lists in which the same rows occur
--   OfBothRows   so has a question of observer rows and import rows
use Rattle.std.specs.Prelude.{◌≡◌, ◌↔◌, List, Some, None, Ok, Err, Option, Result}
use mathlib.Core.List.{Memᴰ}
use Rattle.faults.specs.declared.Fault.{Fault}
use Rattle.interop.specs.declared.rows.ImportRow.{ImportRow}
use Rattle.interop.specs.declared.rows.ObserverRow.{ObserverRow}

abbrev pub SameRows : {Row : Type 0} → List Row → List Row → Type 0
SameRows {Row} rows others = (row : Row) → Memᴰ row rows ↔ Memᴰ row others

abbrev pub given : {A : Type 0} → Result A Fault → Option A
given (Ok a) = Some a
given (Err f) = None

abbrev pub OfRows : {Row A : Type 0} → (List Row → Result A Fault) → Type 0
OfRows {Row} ask = (rows others : List Row) → SameRows rows others → given (ask rows) ≡ given (ask others)

abbrev pub OfBothRows : {A : Type 0} → (List ObserverRow → List ImportRow → Result A Fault) → Type 0
OfBothRows ask = (observers others : List ObserverRow) (imports more : List ImportRow) → SameRows observers others → SameRows imports more → given (ask observers imports) ≡ given (ask others more)
