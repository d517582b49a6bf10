-- What the parts of the entries pass do.
--
--   start_of     what module m starts with: its rank alone if it is an entry, else the empty set
--   Ranked       the first n modules start so
--   EnteredRow   how a row is written back
use Rattle.std.specs.Prelude.{◌≡◌, ℕ, ◌<◌, cond, List, get_or, slice_index_or}
use Rattle.source.specs.Meaning.{Meaning, module_at}
use Rattle.marks.specs.declared.rows.MarkRow.{MarkRow}
use Rattle.marks.specs.Rules.{read_row, with_entries}
use Rattle.marks.specs.Passes.{is_entry, rank}
use Rattle.spread.specs.declared.entry_set.EntrySet.{EntrySet}
use Rattle.spread.specs.Kinds.{no_entry, single_entry}

abbrev pub start_of : Meaning → ℕ → EntrySet
start_of w m = cond (is_entry (module_at w m)) (single_entry (rank w m)) no_entry

abbrev pub Ranked : ℕ → Meaning → List EntrySet → Type 0
Ranked n w facts = (m : ℕ) → m < n → slice_index_or facts m no_entry ≡ start_of w m

abbrev pub EnteredRow : List EntrySet → ℕ → MarkRow → MarkRow → Type 0
EnteredRow facts m old new = new ≡ with_entries (read_row old) (get_or facts m no_entry).0
