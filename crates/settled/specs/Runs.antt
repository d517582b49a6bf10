-- Calls in any order after an accepted begin, accepted or refused.
--
--   no_call, call_at   the i-th call of a list, and what a look-up finds past the last
--   is_taken           the answer is an acceptance
--   PassDid            what an accepted call of a pass does
--   Answered           an accepted call does that, and a refused one leaves the rows
--   Ran                after the first i calls, begun with the rows `first`, these are the rows
--   Accepted           the i-th call is of this pass, and was accepted
--   Settling           kinds was accepted, star and wrap each after that, and await anywhere
use Rattle.std.specs.Prelude.{◌≡◌, ℕ, ◌+◌, ◌<◌, Bool, true, false, List, length, Some, None, Ok, Err, Option, Result, slice_index_or}
use Rattle.faults.specs.declared.Fault.{Fault}
use Rattle.source.specs.Meaning.{Meaning}
use Rattle.marks.specs.declared.options.LinkOptions.{LinkOptions}
use Rattle.marks.specs.declared.rows.MarkRow.{MarkRow}
use Rattle.marks.specs.Passes.{KindsDid, StarDid, WrapDid, AwaitDid, EntriesDid}
use Rattle.settled.specs.declared.calls.Asked.{Asked}
use Rattle.settled.specs.declared.calls.Pass.{Pass}
use Rattle.settled.specs.declared.calls.Pass.TheVariants.{Kinds, Star, Wrap, Await, Entries}

abbrev pub no_call : Asked
no_call = record { pass = Kinds; arrows = 0; places = 0; results = 0; answer = None }

abbrev pub call_at : List Asked → ℕ → Asked
call_at calls i = slice_index_or calls i no_call

abbrev pub is_taken : Option (Result ℕ Fault) → Bool
is_taken None = false
is_taken (Some (Ok n)) = true
is_taken (Some (Err f)) = false

abbrev pub PassDid : Pass → Meaning → LinkOptions → List MarkRow → List MarkRow → Type 0
PassDid Kinds = KindsDid
PassDid Star = StarDid
PassDid Wrap = WrapDid
PassDid Await = AwaitDid
PassDid Entries = EntriesDid

abbrev pub Answered : Bool → Pass → Meaning → LinkOptions → List MarkRow → List MarkRow → Type 0
Answered true pass w o old new = PassDid pass w o old new
Answered false pass w o old new = new ≡ old

pub data Ran (w : Meaning) (o : LinkOptions) (calls : List Asked) (first : List MarkRow) : ℕ → List MarkRow → Type 0 where
  begun : Ran w o calls first 0 first
  then_one : {i j : ℕ} {old new : List MarkRow} → j ≡ i + 1 → Ran w o calls first i old → Answered (is_taken (call_at calls i).answer) (call_at calls i).pass w o old new → Ran w o calls first j new

pub record Accepted (calls : List Asked) (pass : Pass) (i : ℕ) : Type 0 where
  pub within : i < length calls
  pub asked : (call_at calls i).pass ≡ pass
  pub taken : is_taken (call_at calls i).answer ≡ true

pub record Settling (calls : List Asked) : Type 0 where
  pub star : (i : ℕ) × (j : ℕ) × Accepted calls Kinds i × Accepted calls Star j × (i < j)
  pub wrap : (i : ℕ) × (j : ℕ) × Accepted calls Kinds i × Accepted calls Wrap j × (i < j)
  pub await : (i : ℕ) × Accepted calls Await i
