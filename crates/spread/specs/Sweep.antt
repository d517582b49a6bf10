-- One sweep over the arrows, and one step of it.
--
--   AllMade          each place holds a fact that is made of starts that lead there
--   carried          the facts after one arrow is taken
--   Swept            what a sweep has done once it took the rows in Done
--   Until, Since, Each   the rows below a number, from it on, and all
use Rattle.std.specs.Prelude.{◌≡◌, ℕ, ◌<◌, ◌≤◌, Bool, false, List, length, get_or, slice_index_or, slice_set}
use Rattle.spread.specs.declared.arrow.Arrow.{Arrow}
use Rattle.spread.specs.Leads.{no_arrow}
use Rattle.spread.specs.Spread.{Made}

abbrev pub AllMade : {F : Type 0} → F → (F → F → F) → List Arrow → List F → List F → Type 0
AllMade zero join arrows start xs = (p : ℕ) → p < length xs → Made zero join arrows start p (slice_index_or xs p zero)

abbrev pub carried : {F : Type 0} → F → (F → F → F) → List F → Arrow → List F
carried zero join xs a = slice_set xs a.to (join (slice_index_or xs a.to zero) (slice_index_or xs a.from zero))

-- above: no fact shrinks; brought: each arrow's end covers what its start held; still: unchanged, if it says so
pub record Swept {F : Type 0} (zero : F) (join : F → F → F) (arrows : List Arrow) (Done : ℕ → Type 0) (old new : List F) (changed : Bool) : Type 0 where
  pub long : length new ≡ length old
  pub above : (p : ℕ) → join (slice_index_or new p zero) (slice_index_or old p zero) ≡ slice_index_or new p zero
  pub brought : (i : ℕ) → i < length arrows → Done i → join (slice_index_or new (get_or arrows i no_arrow).to zero) (slice_index_or old (get_or arrows i no_arrow).from zero) ≡ slice_index_or new (get_or arrows i no_arrow).to zero
  pub made : (start : List F) → AllMade zero join arrows start old → AllMade zero join arrows start new
  pub still : changed ≡ false → new ≡ old

abbrev pub Until : ℕ → ℕ → Type 0
Until i j = j < i

abbrev pub Since : ℕ → ℕ → Type 0
Since i j = i ≤ j

abbrev pub Each : ℕ → Type 0
Each j = Unit {0}
