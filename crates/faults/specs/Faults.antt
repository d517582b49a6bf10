-- Faults: the number of each rule, the name of each layer, and which of several checks decides.
--
--   refusal_number   the number under which a rule is known outside
--   layer_name       the word for a layer, as its bytes
--   fault            a fault of a rule, found by a layer, at a place
--   fault_text       how a fault is printed, as `number=14 layer=card place=40,0`
--   Verdict          accepted, or the fault
--   refuse_if        a check: refused with this fault exactly where the test holds
--   and_then         two checks in their order: the first that refuses decides
--   each             a check of every element of a list, numbered from i on: the first that is refused decides
use Rattle.std.specs.Prelude.{ℕ, ◌+◌, Bool, true, false, List, [], ◌∷◌, ◌++◌, Ok, Err, codes, decimal, Result}
use Rattle.faults.specs.declared.Fault.{Fault}
use Rattle.faults.specs.declared.Layer.{Layer}
use Rattle.faults.specs.declared.Layer.TheVariants.{Card, Source, Link, Interop}
use Rattle.faults.specs.declared.Refusal.{Refusal}
use Rattle.faults.specs.declared.Refusal.TheVariants.{NotAtThisStage, TooManyModules, TooManyRecords, MarksTooShort, WorkTooShort, RuntimeNotEsm, TargetPastEnd, StyleImportOfNormal, StarMisplaced, RuntimeRequired, TooManyEntries, ResultsTooShort, WrongLength, WrongBlockHead, FieldOutOfValues, WrongFirstRecord, LayerFull, RowPastSource}

abbrev pub refusal_number : Refusal → ℕ
refusal_number NotAtThisStage = 1
refusal_number TooManyModules = 2
refusal_number TooManyRecords = 3
refusal_number MarksTooShort = 4
refusal_number WorkTooShort = 5
refusal_number RuntimeNotEsm = 6
refusal_number TargetPastEnd = 7
refusal_number StyleImportOfNormal = 8
refusal_number StarMisplaced = 9
refusal_number RuntimeRequired = 10
refusal_number TooManyEntries = 11
refusal_number ResultsTooShort = 12
refusal_number WrongLength = 13
refusal_number WrongBlockHead = 14
refusal_number FieldOutOfValues = 15
refusal_number WrongFirstRecord = 16
refusal_number LayerFull = 17
refusal_number RowPastSource = 18

abbrev pub layer_name : Layer → List ℕ
layer_name Card = codes "card"
layer_name Source = codes "source"
layer_name Link = codes "link"
layer_name Interop = codes "interop"

abbrev pub fault : Refusal → Layer → ℕ → ℕ → Fault
fault rule found at inner = record { refusal = rule; layer = found; place = record { at = at; «record» = inner } }

abbrev pub fault_text : Fault → List ℕ
fault_text f =
    codes "number=" ++ (decimal (refusal_number f.refusal) ++ (codes " layer=" ++ (layer_name f.layer ++ (codes " place=" ++ (decimal f.place.at ++ (codes "," ++ decimal f.place.«record»))))))

abbrev pub Verdict : Type 0
Verdict = Result (Unit {0}) Fault

abbrev pub refuse_if : Bool → Fault → Verdict
refuse_if true f = Err f
refuse_if false f = Ok tt

abbrev pub and_then : Verdict → Verdict → Verdict
and_then (Ok u) next = next
and_then (Err f) next = Err f

abbrev pub each : {A : Type 0} → (ℕ → A → Verdict) → ℕ → List A → Verdict
each check i [] = Ok tt
each check i (x ∷ xs) = and_then (check i x) (each check (i + 1) xs)
