-- Rows of arrows lead just where the records do that they are copied from. Assumes nothing.
use Rattle.std.proofs.Common.{◌≡◌, ℕ, ◌<◌, ◌≤◌, Bool, true, false, ◌↔◌, List, length, get_or, take, Ok, Err, sym, refl, ap, ◌∙◌, subst, arith}
use Rattle.std.proofs.lemmas.List.{get_or-take, length-take-le}
use Rattle.source.specs.Meaning.{Meaning, count_of}
use Rattle.marks.specs.Records.{Leads, here, along}
use Rattle.marks.proofs.Records.{leads_back, leads_as, normal_below}
use Rattle.spread.specs.declared.arrow.Arrow.{Arrow}
use Rattle.spread.specs.Leads.{no_arrow, Goes, Inside, AllInside}
use Rattle.spread.specs.Leads as arrows
use Rattle.spread.specs.Spread.{Spread, Leaves}
use Rattle.faults.specs.Faults.{Verdict}
use Rattle.ways.specs.declared.Way.{Way}
use Rattle.ways.specs.Ways.{Step, against, led, Leading, turned, Targets, Copied}

-- arrows' own relation, as one of ours
from_arrows : {rows : List Arrow} {q p : ℕ} → arrows.Leads rows q p → Leads (Goes rows) q p
from_arrows arrows.here = here
from_arrows (arrows.along g l) = along g (from_arrows l)

to_arrows : {rows : List Arrow} {q p : ℕ} → Leads (Goes rows) q p → arrows.Leads rows q p
to_arrows here = arrows.here
to_arrows (along g l) = arrows.along g (to_arrows l)

-- one step, in the direction that facts go
abbrev stepped : Bool → (ℕ → ℕ → Type 0) → ℕ → ℕ → Type 0
stepped true R x y = R y x
stepped false R x y = R x y

led_from : (b : Bool) (R : ℕ → ℕ → Type 0) {q p : ℕ} → Leads (stepped b R) q p → led b R q p
led_from true R l = leads_back (λ x y r. r) l
led_from false R l = l

led_to : (b : Bool) (R : ℕ → ℕ → Type 0) {q p : ℕ} → led b R q p → Leads (stepped b R) q p
led_to true R l = leads_back (λ x y r. r) l
led_to false R l = l

-- what an arrow says of the record that it was drawn from
turned_from : (b : Bool) (R : ℕ → ℕ → Type 0) (row : Arrow) (a t x y : ℕ) → row ≡ turned b a t → row.from ≡ x → row.to ≡ y → R a t → stepped b R x y
turned_from true R row a t x y e f g r =
    subst (λ (z : ℕ). R z x) (sym (ap (λ (k : Arrow). k.to) e) ∙ g) (subst (λ (z : ℕ). R a z) (sym (ap (λ (k : Arrow). k.from) e) ∙ f) r)
turned_from false R row a t x y e f g r =
    subst (λ (z : ℕ). R z y) (sym (ap (λ (k : Arrow). k.from) e) ∙ f) (subst (λ (z : ℕ). R a z) (sym (ap (λ (k : Arrow). k.to) e) ∙ g) r)

turned_to : (b : Bool) (R : ℕ → ℕ → Type 0) (x y : ℕ) → stepped b R x y → (a : ℕ) × (t : ℕ) × R a t × ((turned b a t).from ≡ x) × ((turned b a t).to ≡ y)
turned_to true R x y r = (y, x, r, refl, refl)
turned_to false R x y r = (x, y, r, refl, refl)

turned_inside : (b : Bool) (n a t : ℕ) → a < n → t < n → Inside n (turned b a t)
turned_inside true n a t h k = (k, h)
turned_inside false n a t h k = (h, k)

module _ (way : Way) (w : Meaning) (rows : List Arrow) (n : ℕ) (c : Copied way w rows n) (k : ℕ) (k-is : k ≡ n) where
  size : length (take k rows) ≡ n
  size = length-take-le k rows (omega (arith, c.fits)) ∙ k-is

  at : (i : ℕ) → i < n → get_or (take k rows) i no_arrow ≡ get_or rows i no_arrow
  at i h = get_or-take k rows i no_arrow (omega arith)

  goes_from : (x y : ℕ) → Goes (take k rows) x y → stepped (against way) (Step way w) x y
  goes_from x y g =
      let h : g.0 < n = omega (arith, size, g.1) in
      let s = c.all.sound g.0 h in
      turned_from (against way) (Step way w) (get_or (take k rows) g.0 no_arrow) s.0 s.1 x y (at g.0 h ∙ s.3) g.2 g.3 s.2

  goes_to : (x y : ℕ) → stepped (against way) (Step way w) x y → Goes (take k rows) x y
  goes_to x y r =
      let t = turned_to (against way) (Step way w) x y r in
      let f = c.all.full t.0 t.2.0 t.1 t.2.1 tt t.2.2 in
      let e = at f.0 f.1 ∙ f.2 in
      (f.0, omega (arith, size, f.1), ap (λ (z : Arrow). z.from) e ∙ t.3, ap (λ (z : Arrow). z.to) e ∙ t.4)

  pub leads_just : (q p : ℕ) → arrows.Leads (take k rows) q p ↔ Leading way w q p
  leads_just q p = (
    λ l. led_from (against way) (Step way w) (leads_as goes_from (from_arrows l)),
    λ l. to_arrows (leads_as goes_to (led_to (against way) (Step way w) l)),
  )

  pub all_inside : (places : ℕ) → count_of w ≤ places → Targets w → AllInside places (take k rows)
  all_inside places enough targets i h =
      let lt : i < n = omega (arith, size) in
      let s = c.all.sound i lt in
      let from = normal_below w s.0 s.2.2.points.importer in
      let to = targets s.0 s.1 (s.2.0, s.2.1, s.2.2.points) in
      subst (Inside places) (sym (at i lt ∙ s.3)) (turned_inside (against way) places s.0 s.1 (omega arith) (omega arith))

pub spread_accepted : {F : Type 0} (zero : F) (join : F → F → F) (rows : List Arrow) (old new : List F) (r : Verdict) → Leaves zero join rows old new r → AllInside (length old) rows → Spread zero join rows old new
spread_accepted zero join rows old new (Ok u) l inside = l.spread
spread_accepted zero join rows old new (Err f) l inside = absurd (l.past (inside f.place.at l.row))
