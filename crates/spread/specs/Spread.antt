-- What spreading facts along arrows answers, and what it leaves in the facts.
--
--   Made             a fact is the join of some of the starting facts that lead to a place
--   Spread           each place ends with the join of all starting facts that lead there
--   ends_past        an end of an arrow is past the places
--   arrow_check      a row that has such an end is refused
--   arrow_verdict    the first such row is refused; accepted where there is none
--   Accepted         each row is inside, and the facts have spread
--   Refused          the fault names the first row that is not inside, and the facts are as they were
--   Leaves           one of the two, by the answer
--
-- x covers y where joining y to x gives x.
use Rattle.std.specs.Prelude.{◌≡◌, ℕ, ◌<◌, Bool, ◌||◌, List, length, Ok, Err, nat_le, slice_index_or}
use Rattle.faults.specs.declared.Fault.{Fault}
use Rattle.faults.specs.declared.Layer.TheVariants.{Link}
use Rattle.faults.specs.declared.Refusal.TheVariants.{TargetPastEnd}
use Rattle.faults.specs.Faults.{Verdict, fault, refuse_if, each}
use Rattle.spread.specs.declared.arrow.Arrow.{Arrow}
use Rattle.spread.specs.Leads.{Leads, Inside, AllInside, no_arrow}

pub data Made {F : Type 0} (zero : F) (join : F → F → F) (arrows : List Arrow) (start : List F) (p : ℕ) : F → Type 0 where
  nothing : Made zero join arrows start p zero
  one : {q : ℕ} → Leads arrows q p → Made zero join arrows start p (slice_index_or start q zero)
  both : {x y : F} → Made zero join arrows start p x → Made zero join arrows start p y → Made zero join arrows start p (join x y)

-- upper: it covers every start that leads there; least: whatever covers them all covers it
pub record Spread {F : Type 0} (zero : F) (join : F → F → F) (arrows : List Arrow) (start end : List F) : Type 0 where
  pub long : length end ≡ length start
  pub upper : (q p : ℕ) → p < length start → Leads arrows q p → join (slice_index_or end p zero) (slice_index_or start q zero) ≡ slice_index_or end p zero
  pub least : (p : ℕ) (x : F) → p < length start → ((q : ℕ) → Leads arrows q p → join x (slice_index_or start q zero) ≡ x) → join x (slice_index_or end p zero) ≡ x
  pub made : (p : ℕ) → p < length start → Made zero join arrows start p (slice_index_or end p zero)

abbrev pub ends_past : ℕ → Arrow → Bool
ends_past n a = nat_le n a.from || nat_le n a.to

abbrev pub arrow_check : ℕ → ℕ → Arrow → Verdict
arrow_check n row a = refuse_if (ends_past n a) (fault TargetPastEnd Link row 0)

abbrev pub arrow_verdict : ℕ → List Arrow → Verdict
arrow_verdict n arrows = each (arrow_check n) 0 arrows

pub record Accepted {F : Type 0} (zero : F) (join : F → F → F) (arrows : List Arrow) (start end : List F) : Type 0 where
  pub inside : AllInside (length start) arrows
  pub spread : Spread zero join arrows start end

pub record Refused {F : Type 0} (arrows : List Arrow) (start end : List F) (f : Fault) : Type 0 where
  pub row : f.place.at < length arrows
  pub past : Inside (length start) (slice_index_or arrows f.place.at no_arrow) → ⊥
  pub first : (i : ℕ) → i < f.place.at → Inside (length start) (slice_index_or arrows i no_arrow)
  pub kept : end ≡ start

abbrev pub Leaves : {F : Type 0} → F → (F → F → F) → List Arrow → List F → List F → Verdict → Type 0
Leaves zero join arrows start end (Ok u) = Accepted zero join arrows start end
Leaves zero join arrows start end (Err f) = Refused arrows start end f
