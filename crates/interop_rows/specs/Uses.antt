-- The words for uses.
--
--   one_use_word   the word for a use, as its bytes
--   use_word       that, or `none`
use Rattle.std.specs.Prelude.{ℕ, Bool, true, false, List, Some, None, codes, Option}
use Rattle.spread.specs.declared.interop_use.InteropUse.{InteropUse}

abbrev pub flags_word : Bool → Bool → List ℕ
flags_word false false = codes "neither"
flags_word true false = codes "node"
flags_word false true = codes "other"
flags_word true true = codes "node,other"

abbrev pub one_use_word : InteropUse → List ℕ
one_use_word u = flags_word u.node u.non_node

abbrev pub use_word : Option InteropUse → List ℕ
use_word (Some u) = one_use_word u
use_word None = codes "none"
