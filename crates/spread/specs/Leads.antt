-- Arrows between places, and which place leads to which.
--
--   no_arrow         what a look-up finds past the last row
--   Goes             some row goes from one place to another
--   Leads            a place leads to itself and wherever a path of arrows runs from it
--   Inside           both ends of an arrow are below a number of places
--   AllInside        so of each row
use Rattle.std.specs.Prelude.{◌≡◌, ℕ, ◌<◌, List, length, get_or, slice_index_or}
use Rattle.spread.specs.declared.arrow.Arrow.{Arrow}

abbrev pub no_arrow : Arrow
no_arrow = record { from = 0; to = 0 }

abbrev pub Goes : List Arrow → ℕ → ℕ → Type 0
Goes arrows a b = (i : ℕ) × (i < length arrows) × ((get_or arrows i no_arrow).from ≡ a) × ((get_or arrows i no_arrow).to ≡ b)

pub data Leads (arrows : List Arrow) (q : ℕ) : ℕ → Type 0 where
  here : Leads arrows q q
  along : {a b : ℕ} → Goes arrows a b → Leads arrows q a → Leads arrows q b

abbrev pub Inside : ℕ → Arrow → Type 0
Inside n a = (a.from < n) × (a.to < n)

abbrev pub AllInside : ℕ → List Arrow → Type 0
AllInside n arrows = (i : ℕ) → i < length arrows → Inside n (slice_index_or arrows i no_arrow)
