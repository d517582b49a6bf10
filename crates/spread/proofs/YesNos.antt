-- A place ends with yes exactly where some start that is yes leads to it.
use Rattle.std.proofs.Common.{◌≡◌, ℕ, ◌<◌, Bool, true, false, ◌||◌, List, length, get_or, sym, refl, ap, ◌∙◌, inl, inr}
use mathlib.Core.Bool.{false≢true}
use Rattle.std.proofs.lemmas.Bool.{or_cases}
use Rattle.spread.specs.declared.arrow.Arrow.{Arrow}
use Rattle.spread.specs.declared.yes_no.YesNo.{YesNo}
use Rattle.spread.specs.Kinds.{plain_no, either}
use Rattle.spread.specs.Leads.{Leads}
use Rattle.spread.specs.Spread.{Spread, Made, nothing, one, both}

or_right : (a b : Bool) → (a || b) ≡ a → b ≡ true → a ≡ true
or_right true b e h = refl
or_right false b e h = sym e ∙ h

from_yes : {arrows : List Arrow} {start : List YesNo} {p : ℕ} {v : YesNo} → Made plain_no either arrows start p v → v.0 ≡ true → (q : ℕ) × Leads arrows q p × ((get_or start q plain_no).0 ≡ true)
from_yes nothing e = absurd (false≢true e)
from_yes (one {q} l) e = (q, l, e)
from_yes (both {x} {y} a b) e = elim (or_cases x.0 y.0 e) [ inl f ↦ from_yes a f | inr f ↦ from_yes b f ]

pub yes_from : (arrows : List Arrow) (start end : List YesNo) → Spread plain_no either arrows start end → (p : ℕ) → p < length start → (get_or end p plain_no).0 ≡ true → (q : ℕ) × Leads arrows q p × ((get_or start q plain_no).0 ≡ true)
yes_from arrows start end s p h e = from_yes (s.made p h) e

pub yes_to : (arrows : List Arrow) (start end : List YesNo) → Spread plain_no either arrows start end → (q p : ℕ) → p < length start → Leads arrows q p → (get_or start q plain_no).0 ≡ true → (get_or end p plain_no).0 ≡ true
yes_to arrows start end s q p h l e = or_right (get_or end p plain_no).0 (get_or start q plain_no).0 (ap (λ (x : YesNo). x.0) (s.upper q p h l)) e
