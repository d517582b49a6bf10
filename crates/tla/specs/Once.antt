-- What is kept so that each module is searched from once.
--
--   WaitsFor     the search that begins at module t stops at module s
--   Known        what is known of modules that were searched from
use Rattle.std.specs.Prelude.{◌≡◌, ℕ, ◌<◌, Some, Option}
use Rattle.source.specs.Meaning.{Meaning, count_of}
use Rattle.tla.specs.Search.{SourceOf, Told}

pub record WaitsFor (w : Meaning) (t s : ℕ) : Type 0 where
  pub found : SourceOf w t (Some s)
  pub reached : Told w t (Some s)

abbrev pub Known : Meaning → (ℕ → Option ℕ) → Type 0
Known w known = (t s : ℕ) → t < count_of w → known t ≡ Some s → WaitsFor w t s
