-- What a list of calls answers and leaves, one call after another.
--
--   At              what stands between two calls: the link, the marks, and the list of await rows
--   call_of         the call that a pass is
--   shortest, places_of   the shortest of the lent work slices that have a place for each module
--   SameSizes       each work slice is as long as it was
--   work_of, lent_to   what a pass is lent: kinds works with no slices
--   Answers         the answer that the link gives at that stage
--   ListAfter       only await writes rows
--   Made            a call was made with these lengths lent, and this is its answer and what it leaves
--   answered        the call with its answer
--   MadeOf          a call was made as it was asked for, and lent no more than it asks
--   Went            calls were made one after another, and have their answers
--   RunDid          the link began, and then the calls were made
--   Unchanged       the link did not begin, and all is as it was
--   RunLeaves       one or the other, by begin's answer
--   EveryOrder      once the link has begun and the calls settle, the marks are the settled ones
--   OneRun         these promises leave a run no choice: in its answers, the link, the marks and the list
use Rattle.std.specs.Prelude.{◌≡◌, ℕ, min, List, [], ◌∷◌, length, Some, None, Ok, Err, Option, Result}
use Rattle.faults.specs.declared.Fault.{Fault}
use Rattle.faults.specs.Faults.{Verdict}
use Rattle.source.specs.Meaning.{Meaning, Proper}
use Rattle.marks.specs.declared.options.LinkOptions.{LinkOptions}
use Rattle.marks.specs.declared.rows.AwaitRow.{AwaitRow}
use Rattle.marks.specs.declared.rows.MarkRow.{MarkRow}
use Rattle.marks.specs.Passes.{BeginDid}
use Rattle.ways.specs.Ways.{Targets}
use Rattle.lawful.specs.declared.check.Lent.{Lent}
use Rattle.link.specs.declared.calls.Link.{Link}
use Rattle.link.specs.declared.stage.Call.{Call}
use Rattle.link.specs.declared.stage.Call.TheVariants as call
use Rattle.link.specs.declared.stage.Stage.{Stage}
use Rattle.link.specs.declared.stage.Stage.TheVariants.{Open}
use Rattle.link.specs.Stages.{unsettled}
use Rattle.link.specs.Calls.{call_verdict, entries_verdict, stage_left, counted, Leaves, AwaitAnswer, AwaitLeaves}
use Rattle.runs.specs.declared.work.Work.{Work}
use Rattle.settled.specs.declared.calls.Asked.{Asked}
use Rattle.settled.specs.declared.calls.Pass.{Pass}
use Rattle.settled.specs.declared.calls.Pass.TheVariants.{Kinds, Star, Wrap, Await, Entries}
use Rattle.settled.specs.Runs.{PassDid, Settling}
use Rattle.settled.specs.Settled.{Settled}

pub record At : Type 0 where
  pub link : Link
  pub marks : List MarkRow
  pub list : List AwaitRow

abbrev pub call_of : Pass → Call
call_of Kinds = call.Kinds
call_of Star = call.Star
call_of Wrap = call.Wrap
call_of Await = call.Await
call_of Entries = call.Entries

abbrev pub shortest : ℕ → ℕ → ℕ → ℕ → ℕ → ℕ
shortest facts flags sets ends found = min (min facts flags) (min sets (min ends found))

abbrev pub places_of : Work → ℕ
places_of work = shortest (length work.facts.now) (length work.flags.now) (length work.sets.now) (length work.ends.now) (length work.found.now)

pub record SameSizes (old new : Work) : Type 0 where
  pub facts : length new.facts.now ≡ length old.facts.now
  pub flags : length new.flags.now ≡ length old.flags.now
  pub sets : length new.sets.now ≡ length old.sets.now
  pub ends : length new.ends.now ≡ length old.ends.now
  pub found : length new.found.now ≡ length old.found.now
  pub arrows : length new.arrows.now ≡ length old.arrows.now

abbrev pub work_of : Pass → ℕ → ℕ → Option (ℕ × ℕ)
work_of Kinds arrows places = None
work_of Star arrows places = Some (arrows, places)
work_of Wrap arrows places = Some (arrows, places)
work_of Await arrows places = Some (arrows, places)
work_of Entries arrows places = Some (arrows, places)

abbrev pub lent_to : Pass → ℕ → ℕ → ℕ → Lent
lent_to pass marks arrows places = record { marks = marks; work = work_of pass arrows places }

abbrev pub Answers : Pass → Stage → LinkOptions → Meaning → Lent → ℕ → Result ℕ Fault → Type 0
Answers Kinds stage o w lent room answer = answer ≡ counted (call_verdict call.Kinds stage o w lent (Ok tt)) 0
Answers Star stage o w lent room answer = answer ≡ counted (call_verdict call.Star stage o w lent (Ok tt)) 0
Answers Wrap stage o w lent room answer = answer ≡ counted (call_verdict call.Wrap stage o w lent (Ok tt)) 0
Answers Await stage o w lent room answer = AwaitAnswer (call_verdict call.Await stage o w lent (Ok tt)) w room answer
Answers Entries stage o w lent room answer = answer ≡ counted (call_verdict call.Entries stage o w lent (entries_verdict w)) 0

abbrev pub ListAfter : Pass → Meaning → Result ℕ Fault → List AwaitRow → List AwaitRow → Type 0
ListAfter Kinds w answer old new = new ≡ old
ListAfter Star w answer old new = new ≡ old
ListAfter Wrap w answer old new = new ≡ old
ListAfter Await w answer old new = AwaitLeaves w answer old new
ListAfter Entries w answer old new = new ≡ old

pub record Made (w : Meaning) (pass : Pass) (lent : Lent) (room : ℕ) (answer : Result ℕ Fault) (old new : At) : Type 0 where
  pub answers : Answers pass old.link.stage old.link.options w lent room answer
  pub stage : new.link.stage ≡ stage_left (call_of pass) old.link.stage answer
  pub options : new.link.options ≡ old.link.options
  pub marks : Leaves (PassDid pass w old.link.options) answer old.marks new.marks
  pub list : ListAfter pass w answer old.list new.list

abbrev pub answered : Asked → Result ℕ Fault → Asked
answered asked answer = record { pass = asked.pass; arrows = asked.arrows; places = asked.places; results = asked.results; answer = Some answer }

abbrev pub MadeOf : Meaning → ℕ → ℕ → Asked → Result ℕ Fault → At → At → Type 0
MadeOf w arrows places asked answer old new =
    Made w asked.pass (lent_to asked.pass (length old.marks) (min asked.arrows arrows) (min asked.places places)) (min asked.results (length old.list)) answer old new

pub data Went (w : Meaning) (arrows places : ℕ) : List Asked → List Asked → At → At → Type 0 where
  done : {s : At} → Went w arrows places [] [] s s
  next : {x y : Asked} {xs ys : List Asked} {r : Result ℕ Fault} {s t u : At} → y ≡ answered x r → MadeOf w arrows places x r s t → Went w arrows places xs ys t u → Went w arrows places (x ∷ xs) (y ∷ ys) s u

pub record RunDid (w : Meaning) (o : LinkOptions) (arrows places : ℕ) (asked answers : List Asked) (old new : At) : Type 0 where
  pub first : At
  pub stage : first.link.stage ≡ Open unsettled
  pub options : first.link.options ≡ o
  pub marks : BeginDid w old.marks first.marks
  pub list : first.list ≡ old.list
  pub calls : Went w arrows places asked answers first new

pub record Unchanged (asked answers : List Asked) (old new : At) : Type 0 where
  pub link : new.link ≡ old.link
  pub marks : new.marks ≡ old.marks
  pub list : new.list ≡ old.list
  pub calls : answers ≡ asked

abbrev pub RunLeaves : Verdict → Meaning → LinkOptions → ℕ → ℕ → List Asked → List Asked → At → At → Type 0
RunLeaves (Ok u) w o arrows places asked answers old new = RunDid w o arrows places asked answers old new
RunLeaves (Err f) w o arrows places asked answers old new = Unchanged asked answers old new

abbrev pub EveryOrder : Verdict → Meaning → LinkOptions → List Asked → List MarkRow → Type 0
EveryOrder (Ok u) w o calls rows = Settling calls → Settled w o rows
EveryOrder (Err f) w o calls rows = Unit {0}

abbrev pub OneRun : Type 0
OneRun = (w : Meaning) (o : LinkOptions) (arrows places : ℕ) (asked answers others : List Asked) (old new end : At) → Proper w → Targets w → RunDid w o arrows places asked answers old new → RunDid w o arrows places asked others old end → (answers ≡ others) × (new ≡ end)
