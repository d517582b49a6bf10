-- What a link call answers, and what it leaves.
--
--   allowed          the stage lets the call happen
--   call_verdict     the checks of a call in their order: the stage, the source and what is lent, and the call's own last check
--   entries_verdict  at most 64 entry modules
--   results_verdict  the list has room for so many results
--   stage_left       the stage that a call leaves: the next one where it is accepted, else the same
--   options_left     the options that begin leaves: the given ones where it is accepted, else the same
--   counted          an answer with a count
--   ListLeaves       an accepted call writes these results to the front of the list, and leaves the rest
--   wrappers_of      the wrappers that finish writes over these rows
--   finish_answer    finish answers their number, or the first check that refuses
--   AwaitCounted     there are so many await rows and no other number, and await answers it where the list has room
--   AwaitAnswer      await answers the first check that refuses, and else by the number of its rows
--   AwaitLeaves      an accepted await writes its rows to the front of the list, and a refused one leaves the list
--   Leaves           the rows after an accepted call are as Did says, and after a refused one as they were
use Rattle.std.specs.Prelude.{◌≡◌, ℕ, not, List, ◌++◌, length, drop, is_some, Some, None, Ok, Err, Option, Result, nat_lt}
use Rattle.faults.specs.declared.Fault.{Fault}
use Rattle.faults.specs.declared.Refusal.TheVariants.{NotAtThisStage, TooManyEntries, ResultsTooShort}
use Rattle.faults.specs.Faults.{Verdict, refuse_if, and_then}
use Rattle.source.specs.Meaning.{Meaning, count_of}
use Rattle.marks.specs.declared.options.LinkOptions.{LinkOptions}
use Rattle.marks.specs.declared.rows.AwaitRow.{AwaitRow}
use Rattle.marks.specs.declared.rows.MarkRow.{MarkRow}
use Rattle.marks.specs.declared.rows.WrapperRow.{WrapperRow}
use Rattle.marks.specs.Passes.{rank}
use Rattle.tla.specs.Rows.{RowCount, AwaitRows}
use Rattle.wrappers.specs.Wrappers.{wrapper_rows}
use Rattle.lawful.specs.declared.check.Lent.{Lent}
use Rattle.lawful.specs.Lawful.{link_fault, source_verdict}
use Rattle.link.specs.declared.stage.Call.{Call}
use Rattle.link.specs.declared.stage.Call.TheVariants.{Finish}
use Rattle.link.specs.declared.stage.Stage.{Stage}
use Rattle.link.specs.Stages.{after}

abbrev pub call_verdict : Call → Stage → LinkOptions → Meaning → Lent → Verdict → Verdict
call_verdict call stage o w lent own =
    and_then (refuse_if (not (is_some (after stage call))) (link_fault NotAtThisStage 0 0)) (and_then (source_verdict o w lent) own)

abbrev pub entries_verdict : Meaning → Verdict
entries_verdict w = refuse_if (nat_lt 64 (rank w (count_of w))) (link_fault TooManyEntries 0 0)

abbrev pub results_verdict : ℕ → ℕ → Verdict
results_verdict room needed = refuse_if (nat_lt room needed) (link_fault ResultsTooShort 0 0)

abbrev pub or_stay : Option Stage → Stage → Stage
or_stay (Some next) stage = next
or_stay None stage = stage

abbrev pub stage_left : {T : Type 0} → Call → Stage → Result T Fault → Stage
stage_left call stage (Ok x) = or_stay (after stage call) stage
stage_left call stage (Err f) = stage

abbrev pub options_left : Verdict → LinkOptions → LinkOptions → LinkOptions
options_left (Ok u) given kept = given
options_left (Err f) given kept = kept

abbrev pub counted : Verdict → ℕ → Result ℕ Fault
counted (Ok u) n = Ok n
counted (Err f) n = Err f

abbrev pub Leaves : {T : Type 0} → (List MarkRow → List MarkRow → Type 0) → Result T Fault → List MarkRow → List MarkRow → Type 0
Leaves Did (Ok x) old new = Did old new
Leaves Did (Err f) old new = new ≡ old

abbrev pub ListLeaves : {X : Type 0} → List X → Result ℕ Fault → List X → List X → Type 0
ListLeaves results (Ok n) old new = new ≡ results ++ drop n old
ListLeaves results (Err f) old new = new ≡ old

abbrev pub wrappers_of : LinkOptions → Meaning → List MarkRow → List WrapperRow
wrappers_of o w rows = wrapper_rows w o rows (count_of w)

abbrev pub finish_answer : Stage → LinkOptions → Meaning → List MarkRow → ℕ → Result ℕ Fault
finish_answer stage o w rows room =
    counted (call_verdict Finish stage o w (record { marks = length rows; work = None }) (results_verdict room (length (wrappers_of o w rows)))) (length (wrappers_of o w rows))

pub record AwaitCounted (w : Meaning) (room : ℕ) (answer : Result ℕ Fault) : Type 0 where
  pub rows : ℕ
  pub counts : RowCount w rows
  pub only : (other : ℕ) → RowCount w other → other ≡ rows
  pub is : answer ≡ counted (results_verdict room rows) rows

abbrev pub AwaitAnswer : Verdict → Meaning → ℕ → Result ℕ Fault → Type 0
AwaitAnswer (Ok u) w room answer = AwaitCounted w room answer
AwaitAnswer (Err f) w room answer = answer ≡ Err f

abbrev pub AwaitLeaves : Meaning → Result ℕ Fault → List AwaitRow → List AwaitRow → Type 0
AwaitLeaves w (Ok n) old new = AwaitRows w old new n
AwaitLeaves w (Err f) old new = new ≡ old
