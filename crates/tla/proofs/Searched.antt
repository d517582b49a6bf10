-- What a search comes to: where it stops there is an await, and where it answers none there is none. Assumes nothing.
use Rattle.std.proofs.Common.{◌≡◌, ℕ, ◌+◌, ◌<◌, ◌≤◌, Bool, true, false, cond, not, ◌⊎◌, List, [], ◌∷◌, ◌++◌, length, Some, None, count_by, Option, sym, refl, ap, ◌∙◌, subst, inl, inr, arith}
use Rattle.std.proofs.ByRecursion.{All-weaker}
use Rattle.std.proofs.lemmas.List.{get_or-set_same, get_or-set_other, length-set, set_past}
use Rattle.std.proofs.lemmas.List.Sums.{sum_by-set}
use Rattle.std.proofs.lemmas.Bool.{cases_eq, cases_lt, both_ways}
use Rattle.std.specs.List.{AllByRecursion}
use Rattle.source.specs.Meaning.{Meaning, Proper, count_of, module_at}
use Rattle.marks.specs.Passes.{Awaits}
use Rattle.marks.specs.Records.{Imports, Leads, here, along}
use Rattle.marks.proofs.Records.{none_some}
use Rattle.spread.specs.declared.yes_no.YesNo.{YesNo}
use Rattle.spread.specs.Kinds.{plain_no}
use Rattle.ways.specs.Targets.{flag}
use Rattle.ways.specs.Ways.{Targets}
use Rattle.tla.specs.Awaiting.{has_await, AwaitAt}
use Rattle.tla.specs.Search.{imports_of, enter, Searches, ends, passes, stops, finds, goes_on, Told}
use Rattle.tla.proofs.Targets.{of_import, imports_led, imports_inside}
use Rattle.tla.proofs.Whole.{awaits_at, imports_within}

-- how many are not yet entered
abbrev pub fresh : List YesNo → ℕ
fresh e = count_by (λ (y : YesNo). not y.0) e

cond_not : (b : Bool) → b ≡ false → ◌≡◌ {A = ℕ} (cond (not b) 1 0) 1
cond_not true h = let z : ◌≡◌ {A = ℕ} 0 1 = cc in absurd (omega arith)
cond_not false h = refl

module _ (e : List YesNo) (t : ℕ) where
  pub enter_long : length (enter e t) ≡ length e
  enter_long = length-set e t (record { 0 = true })

  pub enter_same : t < length e → flag (enter e t) t ≡ true
  enter_same h = ap (λ (y : YesNo). y.0) (get_or-set_same e t (record { 0 = true }) plain_no h)

  pub enter_other : (x : ℕ) → (x ≡ t → ⊥) → flag (enter e t) x ≡ flag e x
  enter_other x ne = ap (λ (y : YesNo). y.0) (get_or-set_other e t x (record { 0 = true }) plain_no ne)

  pub enter_kept : (x : ℕ) → flag e x ≡ true → flag (enter e t) x ≡ true
  enter_kept x h = elim (cases_eq x t) [
    | inl q ↦ elim (cases_lt t (length e)) [
      | inl lt ↦ subst (λ (y : ℕ). flag (enter e t) y ≡ true) (sym q) (enter_same lt)
      | inr ge ↦ ap (λ (ys : List YesNo). flag ys x) (set_past e t (record { 0 = true }) ge) ∙ h
    ]
    | inr ne ↦ enter_other x ne ∙ h
  ]

  pub enter_fewer : t < length e → flag e t ≡ false → fresh (enter e t) + 1 ≡ fresh e
  enter_fewer h no_flag = omega (arith, sum_by-set (λ (y : YesNo). cond (not y.0) 1 0) e t (record { 0 = true }) plain_no h, cond_not (flag e t) no_flag)

  pub enter_no_more : fresh (enter e t) ≤ fresh e
  enter_no_more = elim (cases_lt t (length e)) [
    | inl lt ↦ omega (arith, sum_by-set (λ (y : YesNo). cond (not y.0) 1 0) e t (record { 0 = true }) plain_no lt)
    | inr ge ↦ let same = ap fresh (set_past e t (record { 0 = true }) ge) in omega (arith, same)
  ]

module _ (w : Meaning) where
  pub searched_long : {e last : List YesNo} {ts : List ℕ} {r : Option ℕ} → Searches w e ts r last → length last ≡ length e
  searched_long ends = refl
  searched_long (passes h d) = searched_long d
  searched_long (stops {e} {t} h a) = enter_long e t
  searched_long (finds {e} {t} h n d) = searched_long d ∙ enter_long e t
  searched_long (goes_on {e} {t} h n d after) = searched_long after ∙ searched_long d ∙ enter_long e t

  pub searched_kept : {e last : List YesNo} {ts : List ℕ} {r : Option ℕ} → Searches w e ts r last → (x : ℕ) → flag e x ≡ true → flag last x ≡ true
  searched_kept ends x y = y
  searched_kept (passes h d) x y = searched_kept d x y
  searched_kept (stops {e} {t} h a) x y = enter_kept e t x y
  searched_kept (finds {e} {t} h n d) x y = searched_kept d x (enter_kept e t x y)
  searched_kept (goes_on {e} {t} h n d after) x y = searched_kept after x (searched_kept d x (enter_kept e t x y))

  pub searched_fewer : {e last : List YesNo} {ts : List ℕ} {r : Option ℕ} → Searches w e ts r last → fresh last ≤ fresh e
  searched_fewer ends = omega arith
  searched_fewer (passes h d) = searched_fewer d
  searched_fewer (stops {e} {t} h a) = enter_no_more e t
  searched_fewer (finds {e} {t} h n d) = omega (arith, searched_fewer d, enter_no_more e t)
  searched_fewer (goes_on {e} {t} h n d after) = omega (arith, searched_fewer after, searched_fewer d, enter_no_more e t)

  -- a search of more modules: it has stopped already, or goes on with them
  pub searched_found : {e last : List YesNo} {ts : List ℕ} {r : Option ℕ} (s : ℕ) (more : List ℕ) → r ≡ Some s → Searches w e ts r last → Searches w e (ts ++ more) r last
  searched_found s more q ends = absurd (none_some s q)
  searched_found s more q (passes h d) = passes h (searched_found s more q d)
  searched_found s more q (stops h a) = stops h a
  searched_found s more q (finds h n d) = finds h n d
  searched_found s more q (goes_on h n d after) = goes_on h n d (searched_found s more q after)

  pub searched_on : {e next last : List YesNo} {ts more : List ℕ} {q r : Option ℕ} → q ≡ None → Searches w e ts q next → Searches w next more r last → Searches w e (ts ++ more) r last
  searched_on z ends f = f
  searched_on z (passes h d) f = passes h (searched_on z d f)
  searched_on z (stops {e} {t} h a) f = absurd (none_some t (sym z))
  searched_on z (finds {s} h n d) f = absurd (none_some s (sym z))
  searched_on z (goes_on h n d after) f = goes_on h n d (searched_on z after f)

-- where it stops
module _ (w : Meaning) (proper : Proper w) (m : ℕ) where
  abbrev Found : Option ℕ → Type 0
  Found None = Unit {0}
  Found (Some s) = AwaitAt w s × Leads (Imports w) m s

  pub searched_sound : {e last : List YesNo} {ts : List ℕ} {r : Option ℕ} → AllByRecursion (Leads (Imports w) m) ts → Searches w e ts r last → Found r
  searched_sound all ends = tt
  searched_sound all (passes h d) = searched_sound all.1 d
  searched_sound all (stops h a) = (a, all.0)
  searched_sound all (finds {e} {t} h n d) = searched_sound (imports_led w proper m t all.0) d
  searched_sound all (goes_on h n d after) = searched_sound all.1 after

-- where it answers none: what is entered is done
abbrev Entered : List YesNo → ℕ → Type 0
Entered e x = flag e x ≡ true

pub record Done (w : Meaning) (e last : List YesNo) (ts : List ℕ) : Type 0 where
  pub all : AllByRecursion (Entered last) ts
  pub closed : (x : ℕ) → Entered last x → Entered e x ⊎ ((has_await (module_at w x) ≡ false) × AllByRecursion (Entered last) (imports_of w x))

module _ (w : Meaning) (proper : Proper w) (targets : Targets w) where
  pub searched_done : {e last : List YesNo} {ts : List ℕ} {r : Option ℕ} → r ≡ None → count_of w ≤ length e → AllByRecursion (λ t. t < count_of w) ts → Searches w e ts r last → Done w e last ts
  searched_done z long inside ends = record { all = tt; closed = λ x h. inl h }
  searched_done z long inside (passes {t} h d) =
      let rest = searched_done z long inside.1 d in
      record { all = (searched_kept w d t h, rest.all); closed = rest.closed }
  searched_done z long inside (stops {e} {t} h a) = absurd (none_some t (sym z))
  searched_done z long inside (finds {s} h n d) = absurd (none_some s (sym z))
  searched_done z long inside (goes_on {e} {next} {last} {t} h n d after) =
      let below = searched_done refl (omega (arith, enter_long e t)) (imports_inside w proper targets t) d in
      let rest = searched_done z (omega (arith, searched_long w d, enter_long e t)) inside.1 after in
      let keep = searched_kept w after in
      let lead_in : (x : ℕ) → AllByRecursion (Entered next) (imports_of w x) → AllByRecursion (Entered last) (imports_of w x) = λ x. All-weaker (Entered next) (Entered last) keep (imports_of w x) in
      record {
        all = (keep t (searched_kept w d t (enter_same e t (omega (arith, inside.0)))), rest.all);
        closed = λ x y. elim (rest.closed x y) [
          | inr c ↦ inr c
          | inl y1 ↦ elim (below.closed x y1) [
            | inr c ↦ inr (c.0, lead_in x c.1)
            | inl y2 ↦ elim (cases_eq x t) [
              | inl q ↦ inr (ap (λ (v : ℕ). has_await (module_at w v)) q ∙ n, lead_in x (subst (λ (v : ℕ). AllByRecursion (Entered next) (imports_of w v)) (sym q) below.all))
              | inr ne ↦ inl (sym (enter_other e t x ne) ∙ y2)
            ]
          ]
        ];
      }

  module _ (e last : List YesNo) (m : ℕ) (long : count_of w ≤ length e) (lt : m < count_of w) (clear : (x : ℕ) → x < count_of w → flag e x ≡ false) where
    step : Done w e last (m ∷ []) → (x : ℕ) → x < count_of w → Entered last x → (has_await (module_at w x) ≡ false) × AllByRecursion (Entered last) (imports_of w x)
    step d x h y = elim (d.closed x y) [ inl o ↦ absurd (both_ways _ (clear x h) o) | inr c ↦ c ]

    reached : Done w e last (m ∷ []) → (x : ℕ) → Leads (Imports w) m x → Entered last x
    reached d x here = d.all.0
    reached d x (along {a} {b} i l) = of_import (Entered last) w a b i (step d a (imports_within w targets m a lt l) (reached d a l)).1

    pub none_reached : Done w e last (m ∷ []) → Awaits w m → ⊥
    none_reached d a = both_ways _ (step d a.last (imports_within w targets m a.last lt a.leads) (reached d a.last a.leads)).0 (awaits_at w m a)

    pub told : (r : Option ℕ) → Searches w e (m ∷ []) r last → Told w m r
    told None s = none_reached (searched_done refl long (lt, tt) s)
    told (Some x) s = searched_sound w proper m (here, tt) s
