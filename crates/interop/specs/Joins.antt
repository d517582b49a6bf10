-- What many rows come to together.
--
--   joined     the facts of all rows in a list, joined; the least fact for no rows
--   all_uses   that of interop uses: what some row is used for, none where no row has a use
--   any        some row passes the test
use Rattle.std.specs.Prelude.{Bool, List, [], ◌∷◌, Option}
use Rattle.std.specs.List.{list_any}
use Rattle.spread.specs.declared.interop_use.InteropUse.{InteropUse}
use Rattle.spread.specs.Kinds.{no_use, use_join}

abbrev pub joined : {Row Fact : Type 0} → Fact → (Fact → Fact → Fact) → (Row → Fact) → List Row → Fact
joined least join of [] = least
joined least join of (row ∷ rows) = join (of row) (joined least join of rows)

abbrev pub all_uses : {Row : Type 0} → (Row → Option InteropUse) → List Row → Option InteropUse
all_uses of rows = joined no_use use_join of rows

abbrev pub any : {Row : Type 0} → (Row → Bool) → List Row → Bool
any test rows = list_any test rows
