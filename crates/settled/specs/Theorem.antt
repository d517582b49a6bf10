-- Every order of calls settles the same marks.
--
--   EveryOrderSettles   whatever calls were made after begin, once they settle the marks are the settled ones
--   Alike, OneSettled    rows that are settled read alike
--   OneOutcome           what a call promises leaves it no choice
use Rattle.std.specs.Prelude.{◌≡◌, ℕ, ◌<◌, List, length}
use Rattle.source.specs.Meaning.{Meaning, count_of}
use Rattle.marks.specs.declared.options.LinkOptions.{LinkOptions}
use Rattle.marks.specs.declared.rows.MarkRow.{MarkRow}
use Rattle.marks.specs.Passes.{BeginDid}
use Rattle.marks.specs.Rows.{kind_in, wrap_in, required_in, dynamic_in, awaiting_in}
use Rattle.lawful.specs.Lawful.{Lawful}
use Rattle.settled.specs.declared.calls.Asked.{Asked}
use Rattle.settled.specs.declared.calls.Pass.{Pass}
use Rattle.settled.specs.Settled.{Settled}
use Rattle.settled.specs.Runs.{Ran, Settling, PassDid}

abbrev pub EveryOrderSettles : Type 0
EveryOrderSettles = (w : Meaning) (o : LinkOptions) (calls : List Asked) (lent first rows : List MarkRow) → Lawful w o → BeginDid w lent first → Ran w o calls first (length calls) rows → Settling calls → Settled w o rows

pub record Alike (xs ys : List MarkRow) (m : ℕ) : Type 0 where
  pub kind : kind_in xs m ≡ kind_in ys m
  pub wrap : wrap_in xs m ≡ wrap_in ys m
  pub required : required_in xs m ≡ required_in ys m
  pub dynamic : dynamic_in xs m ≡ dynamic_in ys m
  pub awaiting : awaiting_in xs m ≡ awaiting_in ys m

abbrev pub OneSettled : Type 0
OneSettled = (w : Meaning) (o : LinkOptions) (xs ys : List MarkRow) → Settled w o xs → Settled w o ys → (m : ℕ) → m < count_of w → Alike xs ys m

abbrev pub OneOutcome : Type 0
OneOutcome = (w : Meaning) (o : LinkOptions) (pass : Pass) (old xs ys : List MarkRow) → PassDid pass w o old xs → PassDid pass w o old ys → xs ≡ ys
