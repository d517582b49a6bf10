-- What a link leaves that was run to its end: begun, asked for calls, and finished.
--
--   EndsWrapped              a module must be wrapped, or strict order with manual groups wraps it
--   no_wrapper, wrapper_in   the i-th wrapper row, and what a look-up finds past the last
--   Finished                 the marks are the settled ones but for the wrappers, which stand exactly where a module ends
--                            wrapped, and the first n rows are the wrappers of these modules, in module order
--   EndDid                   the link began, the calls were made, and then finish answered
--   NotBegun                 begin was refused, and nothing changed
--   EndLeaves                one or the other, by begin's answer
--   EndsSettled              an accepted finish leaves all that is settled
use Rattle.std.specs.Prelude.{◌≡◌, ℕ, ◌<◌, false, ◌⊎◌, List, length, Ok, Err, Result, slice_index_or}
use Rattle.faults.specs.declared.Fault.{Fault}
use Rattle.faults.specs.Faults.{Verdict}
use Rattle.source.specs.Meaning.{Meaning}
use Rattle.marks.specs.declared.options.LinkOptions.{LinkOptions}
use Rattle.marks.specs.declared.rows.Helper.TheVariants.{CommonJs as CommonJsHelper}
use Rattle.marks.specs.declared.rows.MarkRow.{MarkRow}
use Rattle.marks.specs.declared.rows.WrapKind.TheVariants.{None as Unwrapped}
use Rattle.marks.specs.declared.rows.WrapperRow.{WrapperRow}
use Rattle.marks.specs.Kinds.{settled_kind}
use Rattle.marks.specs.Passes.{StrictWraps, FinishDid}
use Rattle.wrappers.specs.Wrappers.{wrapper_row}
use Rattle.link.specs.declared.stage.Call.TheVariants.{Finish}
use Rattle.link.specs.Calls.{stage_left, finish_answer, wrappers_of, Leaves, ListLeaves}
use Rattle.settled.specs.declared.calls.Asked.{Asked}
use Rattle.settled.specs.Settled.{MustWrap, MarkedBy}
use Rattle.runs.specs.Made.{At, RunDid, Unchanged}

abbrev pub EndsWrapped : Meaning → LinkOptions → ℕ → Type 0
EndsWrapped w o m = MustWrap w o m ⊎ StrictWraps w o (settled_kind w o) m

abbrev pub no_wrapper : WrapperRow
no_wrapper = record { «module» = 0; wrap = Unwrapped; helper = CommonJsHelper; eval = false }

abbrev pub wrapper_in : List WrapperRow → ℕ → WrapperRow
wrapper_in list i = slice_index_or list i no_wrapper

pub record Finished (w : Meaning) (o : LinkOptions) (rows : List MarkRow) (list : List WrapperRow) (n : ℕ) : Type 0 where
  pub marks : MarkedBy w o (EndsWrapped w o) rows
  pub each : (m : ℕ) → EndsWrapped w o m → (i : ℕ) × (i < n) × (wrapper_in list i ≡ wrapper_row o m (settled_kind w o m))
  pub only : (i : ℕ) → i < n → (m : ℕ) × EndsWrapped w o m × (wrapper_in list i ≡ wrapper_row o m (settled_kind w o m))
  pub order : (i j : ℕ) → i < j → j < n → (wrapper_in list i).«module» < (wrapper_in list j).«module»

pub record EndDid (answer : Result ℕ Fault) (w : Meaning) (o : LinkOptions) (arrows places : ℕ) (asked answers : List Asked) (old new : At) (before wrappers : List WrapperRow) : Type 0 where
  pub last : At
  pub calls : RunDid w o arrows places asked answers old last
  pub finish : answer ≡ finish_answer last.link.stage last.link.options w last.marks (length before)
  pub stage : new.link.stage ≡ stage_left Finish last.link.stage answer
  pub options : new.link.options ≡ last.link.options
  pub marks : Leaves (FinishDid w last.link.options) answer last.marks new.marks
  pub list : new.list ≡ last.list
  pub written : ListLeaves (wrappers_of last.link.options w last.marks) answer before wrappers

pub record NotBegun (f : Fault) (answer : Result ℕ Fault) (asked answers : List Asked) (old new : At) (before wrappers : List WrapperRow) : Type 0 where
  pub refused : answer ≡ Err f
  pub unchanged : Unchanged asked answers old new
  pub unwritten : wrappers ≡ before

abbrev pub EndLeaves : Verdict → Result ℕ Fault → Meaning → LinkOptions → ℕ → ℕ → List Asked → List Asked → At → At → List WrapperRow → List WrapperRow → Type 0
EndLeaves (Ok u) answer w o arrows places asked answers old new before wrappers = EndDid answer w o arrows places asked answers old new before wrappers
EndLeaves (Err f) answer w o arrows places asked answers old new before wrappers = NotBegun f answer asked answers old new before wrappers

abbrev pub EndsSettled : Result ℕ Fault → Meaning → LinkOptions → List MarkRow → List WrapperRow → Type 0
EndsSettled (Ok n) w o rows list = Finished w o rows list n
EndsSettled (Err f) w o rows list = Unit {0}
