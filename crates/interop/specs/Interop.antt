-- The questions about an external module in a chunk, and their answers.
--
--   could_be_in     a module with this live chunk could be in the chunk: one without could be in any
--   counts          an observer row is of the namespace, and its observer could be in the chunk
--   is_node_esm     a normal module that Node.js takes for ESM
--   needs_interop   `import * as winch` and `import winch` need `__toESM`; `import { hoist }` reads the object as it is
--   written_use     what an import is used for in a module that Node.js takes for ESM, `__toESM(.., 1)`, or in another
--   observed        the use of an observer row, if it counts
--   written         the use of an import row, if it needs interop
--   node_observer   an observer row counts, and Node.js takes its observer for ESM
--   node_importer   an import row needs interop, and Node.js takes its importer for ESM
--
-- and the answers, without and with the check of the rows:
--
--   recorded_use_of, recorded_use_answer   the uses of the observer rows that count, joined
--   modes_of, modes_answer                 these, joined with the uses of the import rows that need interop
--   reader_of, reader_answer               some observer row or import row is of a module that Node.js takes for ESM
use Rattle.std.specs.Prelude.{ℕ, Bool, true, false, cond, not, ◌&&◌, ◌||◌, List, Some, None, Option, Result, ◌==◌}
use Rattle.faults.specs.declared.Fault.{Fault}
use Rattle.source.specs.declared.Module.{Module}
use Rattle.source.specs.declared.Module.TheVariants.{External, Normal}
use Rattle.source.specs.Meaning.{Meaning, module_at}
use Rattle.spread.specs.declared.interop_use.InteropUse.{InteropUse}
use Rattle.spread.specs.Kinds.{no_use, use_join}
use Rattle.interop.specs.declared.chunk_assignments.ChunkAssignments.{ChunkAssignments}
use Rattle.interop.specs.declared.rows.ImportRow.{ImportRow}
use Rattle.interop.specs.declared.rows.ObserverRow.{ObserverRow}
use Rattle.interop.specs.declared.rows.Specifier.{Specifier}
use Rattle.interop.specs.declared.rows.Specifier.TheVariants.{Namespace, Default, Named}
use Rattle.interop.specs.Checks.{observers_verdict, rows_verdict, answer}
use Rattle.interop.specs.Chunks.{live_chunk}
use Rattle.interop.specs.Joins.{all_uses, any}

abbrev pub could_be_in : Option ℕ → ℕ → Bool
could_be_in (Some live) chunk = live == chunk
could_be_in None chunk = true

abbrev pub counts : ChunkAssignments → ℕ → ℕ → ObserverRow → Bool
counts chunks namespace chunk row = row.namespace == namespace && could_be_in (live_chunk chunks row.observer) chunk

abbrev pub is_node_esm : Module → Bool
is_node_esm (Normal n) = n.node_esm
is_node_esm External = false

abbrev pub needs_interop : Specifier → Bool
needs_interop Namespace = true
needs_interop Default = true
needs_interop (Named name) = false

abbrev pub written_use : Bool → InteropUse
written_use node = record { node = node; non_node = not node }

abbrev pub observed : ChunkAssignments → ℕ → ℕ → ObserverRow → Option InteropUse
observed chunks namespace chunk row = cond (counts chunks namespace chunk row) (Some row.uses) no_use

abbrev pub written : Meaning → ImportRow → Option InteropUse
written w row = cond (needs_interop row.specifier) (Some (written_use (is_node_esm (module_at w row.importer)))) no_use

abbrev pub node_observer : Meaning → ChunkAssignments → ℕ → ℕ → ObserverRow → Bool
node_observer w chunks namespace chunk row = counts chunks namespace chunk row && is_node_esm (module_at w row.observer)

abbrev pub node_importer : Meaning → ImportRow → Bool
node_importer w row = needs_interop row.specifier && is_node_esm (module_at w row.importer)

abbrev pub recorded_use_of : ChunkAssignments → ℕ → ℕ → List ObserverRow → Option InteropUse
recorded_use_of chunks namespace chunk observers = all_uses (observed chunks namespace chunk) observers

abbrev pub modes_of : Meaning → ChunkAssignments → ℕ → ℕ → List ObserverRow → List ImportRow → Option InteropUse
modes_of w chunks namespace chunk observers imports = use_join (recorded_use_of chunks namespace chunk observers) (all_uses (written w) imports)

abbrev pub reader_of : Meaning → ChunkAssignments → ℕ → ℕ → List ObserverRow → List ImportRow → Bool
reader_of w chunks namespace chunk observers imports = any (node_observer w chunks namespace chunk) observers || any (node_importer w) imports

abbrev pub recorded_use_answer : Meaning → ChunkAssignments → ℕ → ℕ → List ObserverRow → Result (Option InteropUse) Fault
recorded_use_answer w chunks namespace chunk observers = answer (observers_verdict w observers) (recorded_use_of chunks namespace chunk observers)

abbrev pub modes_answer : Meaning → ChunkAssignments → ℕ → ℕ → List ObserverRow → List ImportRow → Result (Option InteropUse) Fault
modes_answer w chunks namespace chunk observers imports = answer (rows_verdict w observers imports) (modes_of w chunks namespace chunk observers imports)

abbrev pub reader_answer : Meaning → ChunkAssignments → ℕ → ℕ → List ObserverRow → List ImportRow → Result Bool Fault
reader_answer w chunks namespace chunk observers imports = answer (rows_verdict w observers imports) (reader_of w chunks namespace chunk observers imports)
