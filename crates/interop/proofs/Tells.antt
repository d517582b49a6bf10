-- The answers tell what the rows say. Assumes nothing.
use Rattle.std.proofs.Common.{◌≡◌, ℕ, Bool, true, false, cond, ◌&&◌, ◌||◌, ◌⊎◌, ◌↔◌, List, [], ◌∷◌, Some, None, Option, sym, refl, ap, ◌∙◌, inl, inr}
use mathlib.Core.Bool.{false≢true}
use mathlib.Core.List.Memᴰ
use mathlib.Core.List.{Memᴰ}
use Rattle.std.proofs.lemmas.Bool.{or_cases, or_left, or_right}
use Rattle.source.specs.Meaning.{Meaning, module_at}
use Rattle.spread.specs.declared.interop_use.InteropUse.{InteropUse}
use Rattle.spread.specs.Kinds.{use_join}
use Rattle.interop.specs.declared.chunk_assignments.ChunkAssignments.{ChunkAssignments}
use Rattle.interop.specs.declared.rows.ImportRow.{ImportRow}
use Rattle.interop.specs.declared.rows.ObserverRow.{ObserverRow}
use Rattle.interop.specs.Interop.{counts, is_node_esm, needs_interop, written_use, observed, written, node_observer, node_importer, recorded_use_of, modes_of, reader_of}
use Rattle.interop.specs.Joins.{all_uses, any}
use Rattle.interop.specs.Tells.{Observed, Written, NodeObserved, NodeWritten, Together}

-- some use that contributes has this bit
abbrev SomeHas : (InteropUse → Type 0) → (InteropUse → Bool) → Type 0
SomeHas C bit = (one : InteropUse) × C one × (bit one ≡ true)

has_as : {C D : InteropUse → Type 0} {bit : InteropUse → Bool} → ((one : InteropUse) → C one → D one) → SomeHas C bit → SomeHas D bit
has_as f s = (s.0, f s.0 s.1, s.2)

together_as : {C D : InteropUse → Type 0} → ((one : InteropUse) → C one ↔ D one) → (all : Option InteropUse) → Together C all → Together D all
together_as same None t = λ one d. t one ((same one).1 d)
together_as {C} {D} same (Some all) t = record {
  some = (t.some.0, (same t.some.0).0 t.some.1);
  node = ((λ e. has_as (λ one. (same one).0) (t.node.0 e)), (λ s. t.node.1 (has_as (λ one. (same one).1) s)));
  other = ((λ e. has_as (λ one. (same one).0) (t.other.0 e)), (λ s. t.other.1 (has_as (λ one. (same one).1) s)));
}

-- what contributes on either side
module _ (C D : InteropUse → Type 0) where
  either_has : (bit : InteropUse → Bool) (x y : Bool) → (x ≡ true) ↔ SomeHas C bit → (y ≡ true) ↔ SomeHas D bit → ((x || y) ≡ true) ↔ SomeHas (λ one. C one ⊎ D one) bit
  either_has bit x y f g = (
    (λ e. elim (or_cases x y e) [ inl p ↦ has_as (λ one c. inl c) (f.0 p) | inr q ↦ has_as (λ one d. inr d) (g.0 q) ]),
    (λ s. elim s.1 [ inl c ↦ or_left x y (f.1 (s.0, c, s.2)) | inr d ↦ or_right x y (g.1 (s.0, d, s.2)) ]),
  )

  together_join : (a b : Option InteropUse) → Together C a → Together D b → Together (λ one. C one ⊎ D one) (use_join a b)
  together_join None b s t = together_as (λ one. ((λ d. inr d), (λ o. elim o [ inl c ↦ absurd (s one c) | inr d ↦ d ]))) b t
  together_join (Some a) None s t = together_as (λ one. ((λ c. inl c), (λ o. elim o [ inl c ↦ c | inr d ↦ absurd (t one d) ]))) (Some a) s
  together_join (Some a) (Some b) s t = record {
    some = (s.some.0, inl s.some.1);
    node = either_has (λ one. one.node) a.node b.node s.node t.node;
    other = either_has (λ one. one.non_node) a.non_node b.non_node s.other t.other;
  }

-- one use alone
some_is : {a b : InteropUse} → Some a ≡ Some b → a ≡ b
some_is e = cc

none_is : {a : InteropUse} → None ≡ Some a → ⊥
none_is {a} e = let z : ◌≡◌ {A = Bool} false true = cc in false≢true z

together_one : (o : Option InteropUse) → Together (λ one. o ≡ Some one) o
together_one None = λ one e. none_is e
together_one (Some a) = record {
  some = (a, refl);
  node = ((λ e. (a, refl, e)), (λ s. ap (λ (u : InteropUse). u.node) (some_is s.1) ∙ s.2));
  other = ((λ e. (a, refl, e)), (λ s. ap (λ (u : InteropUse). u.non_node) (some_is s.1) ∙ s.2));
}

-- all rows
module _ {Row : Type 0} (of : Row → Option InteropUse) where
  abbrev From : List Row → InteropUse → Type 0
  From rows one = (row : Row) × Memᴰ row rows × (of row ≡ Some one)

  from_more : (x : Row) (rows : List Row) (one : InteropUse) → ((of x ≡ Some one) ⊎ From rows one) ↔ From (x ∷ rows) one
  from_more x rows one = (
    (λ o. elim o [ inl e ↦ (x, Memᴰ.head refl, e) | inr f ↦ (f.0, Memᴰ.tail f.1, f.2) ]),
    (λ f. elim (Memᴰ.cases_cons f.1) [ inl e ↦ inl (ap of (sym e) ∙ f.2) | inr m ↦ inr (f.0, m, f.2) ]),
  )

  together_all : (rows : List Row) → Together (From rows) (all_uses of rows)
  together_all [] = λ one f. Memᴰ.not-nil f.1
  together_all (x ∷ rows) = together_as (from_more x rows) (use_join (of x) (all_uses of rows)) (together_join (λ one. of x ≡ Some one) (From rows) (of x) (all_uses of rows) (together_one (of x)) (together_all rows))

cond_some : (b : Bool) (a one : InteropUse) → (cond b (Some a) None ≡ Some one) ↔ ((b ≡ true) × (a ≡ one))
cond_some true a one = ((λ e. (refl, some_is e)), (λ p. ap Some p.1))
cond_some false a one = ((λ e. absurd (none_is e)), (λ p. absurd (false≢true p.0)))

-- some row passes
any_tells : {Row : Type 0} (test : Row → Bool) (rows : List Row) → (any test rows ≡ true) ↔ ((row : Row) × Memᴰ row rows × (test row ≡ true))
any_tells test [] = ((λ e. absurd (false≢true e)), (λ s. absurd (Memᴰ.not-nil s.1)))
any_tells test (x ∷ rows) =
    let below = any_tells test rows in (
      (λ e. elim (or_cases (test x) (any test rows) e) [
        | inl here ↦ (x, Memᴰ.head refl, here)
        | inr later ↦ let s = below.0 later in (s.0, Memᴰ.tail s.1, s.2)
      ]),
      (λ s. elim (Memᴰ.cases_cons s.1) [
        | inl e ↦ or_left (test x) (any test rows) (ap test (sym e) ∙ s.2)
        | inr m ↦ or_right (test x) (any test rows) (below.1 (s.0, m, s.2))
      ]),
    )

both_true : (a b : Bool) → ((a && b) ≡ true) ↔ ((a ≡ true) × (b ≡ true))
both_true true b = ((λ e. (refl, e)), (λ p. p.1))
both_true false b = ((λ e. absurd (false≢true e)), (λ p. absurd (false≢true p.0)))

module _ (w : Meaning) (chunks : ChunkAssignments) (namespace chunk : ℕ) (observers : List ObserverRow) where
  pub recorded_use_tells : Together (Observed chunks namespace chunk observers) (recorded_use_of chunks namespace chunk observers)
  recorded_use_tells =
      together_as (λ one. (
        (λ f. let p = (cond_some (counts chunks namespace chunk f.0) f.0.uses one).0 f.2 in (f.0, f.1, p.0, p.1)),
        (λ o. (o.0, o.1, (cond_some (counts chunks namespace chunk o.0) o.0.uses one).1 (o.2, o.3))),
      )) _ (together_all (observed chunks namespace chunk) observers)

  module _ (imports : List ImportRow) where
    abbrev use_in : ImportRow → InteropUse
    use_in row = written_use (is_node_esm (module_at w row.importer))

    written_tells : Together (Written w imports) (all_uses (written w) imports)
    written_tells =
        together_as (λ one. (
          (λ f. let p = (cond_some (needs_interop f.0.specifier) (use_in f.0) one).0 f.2 in (f.0, f.1, p.0, p.1)),
          (λ o. (o.0, o.1, (cond_some (needs_interop o.0.specifier) (use_in o.0) one).1 (o.2, o.3))),
        )) _ (together_all (written w) imports)

    pub modes_tell : Together (λ one. Observed chunks namespace chunk observers one ⊎ Written w imports one) (modes_of w chunks namespace chunk observers imports)
    modes_tell = together_join (Observed chunks namespace chunk observers) (Written w imports) (recorded_use_of chunks namespace chunk observers) (all_uses (written w) imports) recorded_use_tells written_tells

    pub reader_tells : (reader_of w chunks namespace chunk observers imports ≡ true) ↔ (NodeObserved w chunks namespace chunk observers ⊎ NodeWritten w imports)
    reader_tells = (
      (λ e. elim (or_cases (any (node_observer w chunks namespace chunk) observers) (any (node_importer w) imports) e) [
        | inl o ↦ let s = (any_tells (node_observer w chunks namespace chunk) observers).0 o in let p = (both_true (counts chunks namespace chunk s.0) (is_node_esm (module_at w s.0.observer))).0 s.2 in inl (s.0, s.1, p.0, p.1)
        | inr i ↦ let s = (any_tells (node_importer w) imports).0 i in let p = (both_true (needs_interop s.0.specifier) (is_node_esm (module_at w s.0.importer))).0 s.2 in inr (s.0, s.1, p.0, p.1)
      ]),
      (λ s. elim s [
        | inl o ↦ or_left _ _ ((any_tells (node_observer w chunks namespace chunk) observers).1 (o.0, o.1, (both_true (counts chunks namespace chunk o.0) (is_node_esm (module_at w o.0.observer))).1 (o.2, o.3)))
        | inr i ↦ or_right (any (node_observer w chunks namespace chunk) observers) (any (node_importer w) imports) ((any_tells (node_importer w) imports).1 (i.0, i.1, (both_true (needs_interop i.0.specifier) (is_node_esm (module_at w i.0.importer))).1 (i.2, i.3)))
      ]),
    )
