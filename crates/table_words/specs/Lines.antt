-- Why a text of lines does not read.
--
--   at_line     why a line does not read, with the line's number
--   NamesLine   a bad line is named by a number from 1 on
use Rattle.std.specs.Prelude.{ℕ, ◌<◌}
use Rattle.table_words.specs.declared.lines.LineError.{LineError}
use Rattle.table_words.specs.declared.lines.LineError.TheVariants as one
use Rattle.table_words.specs.declared.lines.TextError.{TextError}
use Rattle.table_words.specs.declared.lines.TextError.TheVariants as all

abbrev pub at_line : {E : Type 0} → LineError E → ℕ → TextError E
at_line (one.Expected expected) line = all.BadLine line expected
at_line one.NoMemory line = all.NoMemory

abbrev pub NamesLine : {E : Type 0} → TextError E → Type 0
NamesLine (all.BadLine line expected) = 0 < line
NamesLine all.NoMemory = Unit {0}
