-- Where modules ended up. Modules are assigned to chunks, and a chunk can be removed after that.
--
--   is_removed       the chunk is in the removed list
--   unless_removed   the chunk, if there is one that is not removed
--   live_chunk       a module's chunk: the one that the assignment list holds, unless it is removed; a module past the
--                    end of the list has none
use Rattle.std.specs.Prelude.{ℕ, Bool, cond, List, Some, None, Option, nat_eq, slice_index_or}
use Rattle.interop.specs.declared.chunk_assignments.ChunkAssignments.{ChunkAssignments}
use Rattle.interop.specs.Joins.{any}

abbrev pub is_removed : List ℕ → ℕ → Bool
is_removed removed chunk = any (λ gone. nat_eq gone chunk) removed

abbrev pub unless_removed : List ℕ → Option ℕ → Option ℕ
unless_removed removed (Some chunk) = cond (is_removed removed chunk) None (Some chunk)
unless_removed removed None = None

abbrev pub live_chunk : ChunkAssignments → ℕ → Option ℕ
live_chunk chunks m = unless_removed chunks.removed.now (slice_index_or chunks.assigned.now m None)
