-- What the answers tell of the rows.
--
--   Observed       some observer row that counts has this use
--   Written        some import row that needs interop has this use
--   NodeObserved   the observer of some row that counts is a module that Node.js takes for ESM
--   NodeWritten    the importer of some row that needs interop is one
--   TogetherAs     some use contributes, and all together are for Node's interop exactly where one of them is, and so for
--                  the other
--   Together       none where no use contributes, and else that
use Rattle.std.specs.Prelude.{◌≡◌, ℕ, true, ◌↔◌, List, Some, None, Option}
use mathlib.Core.List.{Memᴰ}
use Rattle.source.specs.Meaning.{Meaning, module_at}
use Rattle.spread.specs.declared.interop_use.InteropUse.{InteropUse}
use Rattle.interop.specs.declared.chunk_assignments.ChunkAssignments.{ChunkAssignments}
use Rattle.interop.specs.declared.rows.ImportRow.{ImportRow}
use Rattle.interop.specs.declared.rows.ObserverRow.{ObserverRow}
use Rattle.interop.specs.Interop.{counts, is_node_esm, needs_interop, written_use}

abbrev pub Observed : ChunkAssignments → ℕ → ℕ → List ObserverRow → InteropUse → Type 0
Observed chunks namespace chunk observers u = (row : ObserverRow) × Memᴰ row observers × (counts chunks namespace chunk row ≡ true) × (row.uses ≡ u)

abbrev pub Written : Meaning → List ImportRow → InteropUse → Type 0
Written w imports u = (row : ImportRow) × Memᴰ row imports × (needs_interop row.specifier ≡ true) × (written_use (is_node_esm (module_at w row.importer)) ≡ u)

abbrev pub NodeObserved : Meaning → ChunkAssignments → ℕ → ℕ → List ObserverRow → Type 0
NodeObserved w chunks namespace chunk observers = (row : ObserverRow) × Memᴰ row observers × (counts chunks namespace chunk row ≡ true) × (is_node_esm (module_at w row.observer) ≡ true)

abbrev pub NodeWritten : Meaning → List ImportRow → Type 0
NodeWritten w imports = (row : ImportRow) × Memᴰ row imports × (needs_interop row.specifier ≡ true) × (is_node_esm (module_at w row.importer) ≡ true)

pub record TogetherAs (Contributes : InteropUse → Type 0) (all : InteropUse) : Type 0 where
  pub some : (one : InteropUse) × Contributes one
  pub node : (all.node ≡ true) ↔ ((one : InteropUse) × Contributes one × (one.node ≡ true))
  pub other : (all.non_node ≡ true) ↔ ((one : InteropUse) × Contributes one × (one.non_node ≡ true))

abbrev pub Together : (InteropUse → Type 0) → Option InteropUse → Type 0
Together Contributes None = (one : InteropUse) → Contributes one → ⊥
Together Contributes (Some all) = TogetherAs Contributes all
