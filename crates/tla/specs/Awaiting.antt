-- What the parts of the pass do that marks the modules that wait.
--
--   has_await, AwaitAt   a module has a top-level `await` of its own, as a test and as a fact
--   AwaitingRow          how a row is written back
use Rattle.std.specs.Prelude.{◌≡◌, ℕ, Bool, true, false, ◌||◌, List}
use Rattle.source.specs.declared.Module.{Module}
use Rattle.source.specs.declared.Module.TheVariants.{External, Normal}
use Rattle.source.specs.Meaning.{Meaning, module_at}
use Rattle.marks.specs.declared.rows.MarkRow.{MarkRow}
use Rattle.marks.specs.Rules.{read_row, with_awaiting}
use Rattle.spread.specs.declared.yes_no.YesNo.{YesNo}
use Rattle.ways.specs.Targets.{flag}

abbrev pub has_await : Module → Bool
has_await External = false
has_await (Normal n) = n.top_level_await

abbrev pub AwaitAt : Meaning → ℕ → Type 0
AwaitAt w m = has_await (module_at w m) ≡ true

abbrev pub AwaitingRow : List YesNo → ℕ → MarkRow → MarkRow → Type 0
AwaitingRow facts m old new = new ≡ with_awaiting (read_row old) (old.awaiting || flag facts m)
