-- The laws of joining, and a fold that joins what rows come to. Assumes nothing.
use Rattle.std.proofs.Common.{◌≡◌, ℕ, ◌+◌, ◌<◌, ◌≤◌, Bool, false, ◌||◌, List, [], ◌∷◌, length, get_or, drop, Some, None, Option, sym, refl, ap, ◌∙◌}
use Rattle.std.proofs.lemmas.List.{at_drop_more, at_drop_all}
use mathlib.Core.Bool.{or_assoc, or_comm, or_self}
use Rattle.spread.specs.declared.interop_use.InteropUse.{InteropUse}
use Rattle.spread.specs.Kinds.{no_use, use_join}
use Rattle.spread.proofs.Order.{Lattice, zero_below}
use Rattle.interop.specs.Joins.{joined, all_uses, any}

pub any_laws : Lattice false ◌||◌
any_laws = record { assoc = or_assoc; comm = or_comm; idem = or_self; left = λ x. refl }

use_assoc : (x y z : Option InteropUse) → use_join (use_join x y) z ≡ use_join x (use_join y z)
use_assoc None y z = refl
use_assoc (Some a) None z = refl
use_assoc (Some a) (Some b) None = refl
use_assoc (Some a) (Some b) (Some c) =
    let p = or_assoc a.node b.node c.node in
    let q = or_assoc a.non_node b.non_node c.non_node in
    cc

use_comm : (x y : Option InteropUse) → use_join x y ≡ use_join y x
use_comm None None = refl
use_comm None (Some b) = refl
use_comm (Some a) None = refl
use_comm (Some a) (Some b) =
    let p = or_comm a.node b.node in
    let q = or_comm a.non_node b.non_node in
    cc

use_idem : (x : Option InteropUse) → use_join x x ≡ x
use_idem None = refl
use_idem (Some a) = rw (or_self a.node, or_self a.non_node)

pub use_laws : Lattice no_use use_join
use_laws = record { assoc = use_assoc; comm = use_comm; idem = use_idem; left = λ x. refl }

-- whether some row passes, as a join
pub any_joined : {Row : Type 0} (test : Row → Bool) (rows : List Row) → any test rows ≡ joined false ◌||◌ test rows
any_joined test [] = refl
any_joined test (row ∷ rows) = ap (λ (b : Bool). test row || b) (any_joined test rows)

-- the rows before the i-th come to `found`
abbrev pub JoinedTo : {Row : Type 0} → (Row → Option InteropUse) → List Row → ℕ → Option InteropUse → Type 0
JoinedTo of rows i found = use_join found (all_uses of (drop i rows)) ≡ all_uses of rows

module _ {Row : Type 0} (of : Row → Option InteropUse) (rows : List Row) (i : ℕ) (found : Option InteropUse) (so_far : JoinedTo of rows i found) where
  pub joined_more : (d : Row) (new : Option InteropUse) → i < length rows → new ≡ use_join found (of (get_or rows i d)) → JoinedTo of rows (i + 1) new
  joined_more d new h is =
      ap (λ (u : Option InteropUse). use_join u (all_uses of (drop (i + 1) rows))) is
      ∙ use_assoc found (of (get_or rows i d)) (all_uses of (drop (i + 1) rows))
      ∙ ap (use_join found) (sym (at_drop_more (all_uses of) rows i d h))
      ∙ so_far

  pub joined_all : length rows ≤ i → found ≡ all_uses of rows
  joined_all h = sym (zero_below use_laws found) ∙ ap (use_join found) (sym (at_drop_all (all_uses of) rows i h)) ∙ so_far
