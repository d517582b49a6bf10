-- The search for the top-level `await` that a module waits for.
--
--   led_to, imports_in   where a record leads, and where records lead in order: the targets of the resolved `Import`s
--   imports_of           where a module's records lead
--   imports_before       where the records of the modules below m lead, module by module
--   enter                the flags with a module entered
--   Searches             a search of modules in turn, what it answers, and which modules are entered then
--   SourceOf             what a search answers that begins at a module with none entered
--   Told                 what the answer says of the module it began at; Only: that there is no other answer
--   start_of             where a module's imports begin: where those of the module before end
--   LaidByEnds           the imports of all modules as arrows, and where those of each module end
use Rattle.std.specs.Prelude.{◌≡◌, ℕ, zero, suc, ◌+◌, ◌<◌, ◌≤◌, Bool, true, false, List, [], ◌∷◌, map, length, take, Some, None, Option, slice_index, slice_set}
use Rattle.std.specs.List.{flat_map}
use Rattle.source.specs.declared.ImportRecord.{ImportRecord}
use Rattle.source.specs.Meaning.{Meaning, count_of, records_of, module_at}
use Rattle.marks.specs.Passes.{Awaits}
use Rattle.marks.specs.Records.{Imports, Leads}
use Rattle.spread.specs.declared.arrow.Arrow.{Arrow}
use Rattle.spread.specs.declared.yes_no.YesNo.{YesNo}
use Rattle.ways.specs.Targets.{flag}
use Rattle.ways.specs.Ways.{is_import}
use Rattle.tla.specs.Awaiting.{has_await, AwaitAt}

abbrev pub led_to : Bool → Option ℕ → List ℕ
led_to true None = []
led_to true (Some t) = t ∷ []
led_to false target = []

abbrev pub imports_in : List ImportRecord → List ℕ
imports_in rs = flat_map (λ r. led_to (is_import r.kind) r.target) rs

abbrev pub imports_of : Meaning → ℕ → List ℕ
imports_of w m = imports_in (records_of w m)

abbrev pub imports_before : Meaning → ℕ → List ℕ
imports_before w m = flat_map (λ s. imports_in s.records) (take m w.modules)

abbrev pub enter : List YesNo → ℕ → List YesNo
enter entered m = slice_set entered m (record { 0 = true })

-- A module that was entered before gives none. One that has the await flag is the answer. Any other is entered, and its
-- imports are searched in order before the search goes on to the next.
pub data Searches (w : Meaning) : List YesNo → List ℕ → Option ℕ → List YesNo → Type 0 where
  ends : {e : List YesNo} → Searches w e [] None e
  passes : {e last : List YesNo} {t : ℕ} {ts : List ℕ} {r : Option ℕ} → flag e t ≡ true → Searches w e ts r last → Searches w e (t ∷ ts) r last
  stops : {e : List YesNo} {t : ℕ} {ts : List ℕ} → flag e t ≡ false → AwaitAt w t → Searches w e (t ∷ ts) (Some t) (enter e t)
  finds : {e last : List YesNo} {t s : ℕ} {ts : List ℕ} → flag e t ≡ false → has_await (module_at w t) ≡ false → Searches w (enter e t) (imports_of w t) (Some s) last → Searches w e (t ∷ ts) (Some s) last
  goes_on : {e next last : List YesNo} {t : ℕ} {ts : List ℕ} {r : Option ℕ} → flag e t ≡ false → has_await (module_at w t) ≡ false → Searches w (enter e t) (imports_of w t) None next → Searches w next ts r last → Searches w e (t ∷ ts) r last

pub record SourceOf (w : Meaning) (m : ℕ) (answer : Option ℕ) : Type 0 where
  pub start : List YesNo
  pub last : List YesNo
  pub long : count_of w ≤ length start
  pub clear : (x : ℕ) → x < count_of w → flag start x ≡ false
  pub searches : Searches w start (m ∷ []) answer last

-- the await flag stands where the search stops, and imports lead there; with no answer no await is reached
abbrev pub Told : Meaning → ℕ → Option ℕ → Type 0
Told w m None = Awaits w m → ⊥
Told w m (Some s) = AwaitAt w s × Leads (Imports w) m s

abbrev pub Only : Meaning → ℕ → Option ℕ → Type 0
Only w m answer = (other : Option ℕ) → SourceOf w m other → other ≡ answer

abbrev pub start_of : List ℕ → ℕ → ℕ
start_of at zero = 0
start_of at (suc m) = slice_index at m

pub record LaidByEnds (w : Meaning) (ends : List ℕ) (arrows : List Arrow) : Type 0 where
  pub long : count_of w ≤ length ends
  pub fits : length (imports_before w (count_of w)) ≤ length arrows
  pub stops : (m : ℕ) → m < count_of w → slice_index ends m ≡ length (imports_before w (m + 1))
  pub targets : map (λ (a : Arrow). a.to) (take (length (imports_before w (count_of w))) arrows) ≡ imports_before w (count_of w)
