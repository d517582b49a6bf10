-- What the verdict on the arrows says of them.
use Rattle.std.proofs.Common.{◌≡◌, ℕ, zero, suc, ◌+◌, ◌<◌, Bool, true, false, leb, ◌⊎◌, List, [], ◌∷◌, length, get_or, Ok, Err, sym, refl, ap, ◌∙◌, inl, inr, arith}
use Rattle.std.proofs.lemmas.Bool.{or_cases, or_parts, leb-true, leb-false}
use Rattle.faults.specs.declared.Fault.{Fault}
use Rattle.faults.specs.declared.Layer.TheVariants.{Link}
use Rattle.faults.specs.declared.Refusal.TheVariants.{TargetPastEnd}
use Rattle.faults.specs.Faults.{Verdict, fault, refuse_if, and_then, each}
use Rattle.spread.specs.declared.arrow.Arrow.{Arrow}
use Rattle.spread.specs.Leads.{Inside, AllInside, no_arrow}
use Rattle.spread.specs.Spread.{ends_past, arrow_check, arrow_verdict, Accepted, Leaves}

is_inside : (n : ℕ) (a : Arrow) → ends_past n a ≡ false → Inside n a
is_inside n a e = let p = or_parts (leb n a.from) (leb n a.to) e in (leb-false n a.from p.0, leb-false n a.to p.1)

is_past : (n : ℕ) (a : Arrow) → ends_past n a ≡ true → Inside n a → ⊥
is_past n a e i = elim (or_cases (leb n a.from) (leb n a.to) e) [ inl f ↦ omega (arith, leb-true n a.from f) | inr f ↦ omega (arith, leb-true n a.to f) ]

-- a check and the next: both accept, or the first that refuses decides
accept_both : (b : Bool) (f : Fault) (next : Verdict) → and_then (refuse_if b f) next ≡ Ok tt → (b ≡ false) × (next ≡ Ok tt)
accept_both true f next e = absurd (let z : ◌≡◌ {A = ℕ} 0 1 = cc in omega arith)
accept_both false f next e = (refl, e)

refuse_one : (b : Bool) (f g : Fault) (next : Verdict) → and_then (refuse_if b f) next ≡ Err g → ((b ≡ true) × (g ≡ f)) ⊎ ((b ≡ false) × (next ≡ Err g))
refuse_one true f g next e = inl (refl, cc)
refuse_one false f g next e = inr (refl, e)

all_inside : (n row : ℕ) (xs : List Arrow) → each (arrow_check n) row xs ≡ Ok tt → AllInside n xs
all_inside n row [] e i h = absurd (omega arith)
all_inside n row (a ∷ xs) e zero h = is_inside n a (accept_both (ends_past n a) _ _ e).0
all_inside n row (a ∷ xs) e (suc i) h = all_inside n (row + 1) xs (accept_both (ends_past n a) _ _ e).1 i (omega arith)

-- the first of xs that is not inside stands at k
record FirstPast (n : ℕ) (xs : List Arrow) (k : ℕ) : Type 0 where
  row : k < length xs
  past : Inside n (get_or xs k no_arrow) → ⊥
  first : (i : ℕ) → i < k → Inside n (get_or xs i no_arrow)

later : (n : ℕ) (a : Arrow) (xs : List Arrow) (k : ℕ) → Inside n a → FirstPast n xs k → FirstPast n (a ∷ xs) (suc k)
later n a xs k inside p = record { row = omega (arith, p.row); past = p.past; first = before }
  where
    before : (i : ℕ) → i < suc k → Inside n (get_or (a ∷ xs) i no_arrow)
    before zero h = inside
    before (suc i) h = p.first i (omega arith)

first_past : (n row : ℕ) (xs : List Arrow) (f : Fault) → each (arrow_check n) row xs ≡ Err f → (k : ℕ) × (f.place.at ≡ row + k) × FirstPast n xs k
first_past n row [] f e = absurd (let z : ◌≡◌ {A = ℕ} 0 1 = cc in omega arith)
first_past n row (a ∷ xs) f e =
    elim (refuse_one (ends_past n a) (fault TargetPastEnd Link row 0) f (each (arrow_check n) (row + 1) xs) e) [
      | inl now ↦ (0, omega (arith, ap (λ (g : Fault). g.place.at) now.1), record { row = omega arith; past = is_past n a now.0; first = λ i h. absurd (omega arith) })
      | inr on ↦ (let p = first_past n (row + 1) xs f on.1 in (suc p.0, omega (arith, p.1), later n a xs p.0 (is_inside n a on.0) p.2))
    ]

pub verdict_inside : (n : ℕ) (arrows : List Arrow) (answer : Verdict) → answer ≡ arrow_verdict n arrows → answer ≡ Ok tt → AllInside n arrows
verdict_inside n arrows answer e ok = all_inside n 0 arrows (sym e ∙ ok)

module _ {F : Type 0} (zero : F) (join : F → F → F) (arrows : List Arrow) (start end : List F) where
  pub refused : (answer : Verdict) (f : Fault) → answer ≡ Err f → answer ≡ arrow_verdict (length start) arrows → end ≡ start → Leaves zero join arrows start end answer
  refused (Ok u) f err e kept = absurd (let z : ◌≡◌ {A = ℕ} 0 1 = cc in omega arith)
  refused (Err g) f err e kept =
      let p = first_past (length start) 0 arrows g (sym e) in
      let at : g.place.at ≡ p.0 = omega (arith, p.1) in
      record { row = rw at p.2.row; past = rw at p.2.past; first = rw at p.2.first; kept = kept }

  -- arrows that are inside are accepted
  pub accepted : AllInside (length start) arrows → (answer : Verdict) → Leaves zero join arrows start end answer → Accepted zero join arrows start end
  accepted inside (Ok u) a = a
  accepted inside (Err f) r = absurd (r.past (inside f.place.at r.row))
