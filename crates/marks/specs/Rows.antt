-- What stands in the caller's rows.
--
--   row_at                                          the row of a module; past the last row a cleared one of no kind
--   kind_in, wrap_in, wrapped_in, required_in, dynamic_in, awaiting_in, entries_in   how it reads
--   keeps_rule                                      a row that reads as it stands
--   Raised P old new                                yes exactly where it was yes, or P holds
--   Written n Row old new                           the first n rows are written, each as Row says; the others stay
use Rattle.std.specs.Prelude.{◌≡◌, ℕ, ◌<◌, ◌≤◌, Bool, true, ◌⊎◌, List, length, slice_index_or}
use Rattle.source.specs.declared.ExportsKind.{ExportsKind}
use Rattle.source.specs.declared.ExportsKind.TheVariants.{None as Unknown}
use Rattle.marks.specs.declared.rows.MarkRow.{MarkRow}
use Rattle.marks.specs.declared.rows.WrapKind.{WrapKind}
use Rattle.marks.specs.Rules.{agrees, is_wrapped, read_wrap, cleared}

abbrev pub row_at : List MarkRow → ℕ → MarkRow
row_at rows m = slice_index_or rows m (cleared Unknown)

abbrev pub kind_in : List MarkRow → ℕ → ExportsKind
kind_in rows m = (row_at rows m).kind

abbrev pub wrap_in : List MarkRow → ℕ → WrapKind
wrap_in rows m = read_wrap (row_at rows m).kind (row_at rows m).wrap

abbrev pub wrapped_in : List MarkRow → ℕ → Bool
wrapped_in rows m = is_wrapped (wrap_in rows m)

abbrev pub required_in : List MarkRow → ℕ → Bool
required_in rows m = (row_at rows m).required

abbrev pub dynamic_in : List MarkRow → ℕ → Bool
dynamic_in rows m = (row_at rows m).dynamic

abbrev pub awaiting_in : List MarkRow → ℕ → Bool
awaiting_in rows m = (row_at rows m).awaiting

abbrev pub entries_in : List MarkRow → ℕ → ℕ
entries_in rows m = (row_at rows m).entries

abbrev pub keeps_rule : MarkRow → Type 0
keeps_rule row = agrees row.kind row.wrap ≡ true

pub record Raised (P : Type 0) (old new : Bool) : Type 0 where
  pub kept : old ≡ true → new ≡ true
  pub made : P → new ≡ true
  pub only : new ≡ true → (old ≡ true) ⊎ P

pub record Written (n : ℕ) (Row : ℕ → MarkRow → MarkRow → Type 0) (old new : List MarkRow) : Type 0 where
  pub long : length new ≡ length old
  pub each : (m : ℕ) → m < n → Row m (row_at old m) (row_at new m)
  pub rest : (m : ℕ) → n ≤ m → row_at new m ≡ row_at old m
