-- What the laws of a kind of fact give. Here x covers y where join x y ≡ x.
use Rattle.std.proofs.Common.{◌≡◌, sym, ap, ◌∙◌}

pub record Lattice {F : Type 0} (zero : F) (join : F → F → F) : Type 0 where
  pub assoc : (x y z : F) → join (join x y) z ≡ join x (join y z)
  pub comm : (x y : F) → join x y ≡ join y x
  pub idem : (x : F) → join x x ≡ x
  pub left : (x : F) → join zero x ≡ x

pub lattice : {F : Type 0} {zero : F} {join : F → F → F} → ((x y z : F) → join (join x y) z ≡ join x (join y z)) → ((x y : F) → join x y ≡ join y x) → ((x : F) → join x x ≡ x) → ((x : F) → join zero x ≡ x) → Lattice zero join
lattice assoc comm idem left = record { assoc = assoc; comm = comm; idem = idem; left = left }

module _ {F : Type 0} {zero : F} {join : F → F → F} (laws : Lattice zero join) where
  pub zero_below : (x : F) → join x zero ≡ x
  zero_below x = laws.comm x zero ∙ laws.left x

  pub below_trans : (x y z : F) → join y x ≡ y → join z y ≡ z → join z x ≡ z
  below_trans x y z xy yz = ap (λ v. join v x) (sym yz) ∙ laws.assoc z y x ∙ ap (join z) xy ∙ yz

  pub below_antisym : (x y : F) → join y x ≡ y → join x y ≡ x → x ≡ y
  below_antisym x y xy yx = sym yx ∙ laws.comm x y ∙ xy

  -- a join covers both its parts
  pub above_left : (x y : F) → join (join x y) x ≡ join x y
  above_left x y = laws.comm (join x y) x ∙ sym (laws.assoc x x y) ∙ ap (λ v. join v y) (laws.idem x)

  pub above_right : (x y : F) → join (join x y) y ≡ join x y
  above_right x y = laws.assoc x y y ∙ ap (join x) (laws.idem y)

  -- and is covered by what covers both
  pub join_below : (x y z : F) → join z x ≡ z → join z y ≡ z → join z (join x y) ≡ z
  join_below x y z xz yz = sym (laws.assoc z x y) ∙ ap (λ v. join v y) xz ∙ yz
