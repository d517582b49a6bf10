-- The records that are copied as arrows, record by record in scan order. Assumes nothing.
use Rattle.std.proofs.Common.{◌≡◌, ℕ, ◌+◌, ◌<◌, ◌≤◌, ◌⊎◌, List, length, get_or, take, set, sum_by, sym, ap, ◌∙◌, subst, inl, inr, arith}
use Rattle.std.proofs.lemmas.List.{get_or-set_same, get_or-set_other}
use Rattle.std.proofs.lemmas.List.Sums.{sum_by_more, sum_by-take-le}
use Rattle.std.proofs.lemmas.Bool.{cases_eq}
use Rattle.source.specs.declared.ImportKind.{ImportKind}
use Rattle.source.specs.Meaning.{Meaning, Scanned, count_of, records_in, past_modules, record_total}
use Rattle.marks.specs.Records.{NormalAt}
use Rattle.marks.proofs.Records.{points_in, normal_below}
use Rattle.spread.specs.declared.arrow.Arrow.{Arrow}
use Rattle.spread.specs.Leads.{no_arrow}
use Rattle.ways.specs.declared.Way.{Way}
use Rattle.ways.proofs.Sweeps.{Before}
use Rattle.ways.specs.Ways.{Leaving, Step, drawn, All, CopiedUpTo}

abbrev pub long : Scanned → ℕ
long s = length s.records

-- there is room for one more
pub room : (w : Meaning) (m k n size : ℕ) → m < count_of w → k < records_in w m → record_total w ≤ size → n ≤ sum_by long (take m w.modules) + k → n < size
room w m k n size h i fits le = omega (arith, sum_by_more long w.modules m past_modules h, sum_by-take-le long w.modules (m + 1))

-- what is done before record k of module m
abbrev pub Within : ℕ → ℕ → ℕ → ℕ → Type 0
Within m k a j = (a < m) ⊎ ((a ≡ m) × (j < k))

module _ (way : Way) (w : Meaning) where
  copied_as : (D E : ℕ → ℕ → Type 0) (rows : List Arrow) (n : ℕ) → ((a j t : ℕ) (kind : ImportKind) → E a j → Leaving way w a j kind t → D a j) → CopiedUpTo D way w rows n → CopiedUpTo E way w rows n
  copied_as D E rows n f c = record { sound = c.sound; full = λ a j t kind e l. c.full a j t kind (f a j t kind e l) l }

  pub copied_enter : (m : ℕ) (rows : List Arrow) (n : ℕ) → CopiedUpTo (Before m) way w rows n → CopiedUpTo (Within m 0) way w rows n
  copied_enter m rows n = copied_as (Before m) (Within m 0) rows n (λ a j t kind e l. elim e [ inl lt ↦ lt | inr q ↦ absurd (omega (arith, q.1)) ])

  pub copied_skip : (m : ℕ) (rows : List Arrow) (n : ℕ) → (NormalAt w m → ⊥) → CopiedUpTo (Before m) way w rows n → CopiedUpTo (Before (m + 1)) way w rows n
  copied_skip m rows n none = copied_as (Before m) (Before (m + 1)) rows n (λ a j t kind e l. elim (cases_eq a m) [
    | inl q ↦ absurd (none (subst (NormalAt w) q l.points.importer))
    | inr ne ↦ omega (arith, e)
  ])

  pub copied_leave : (m k : ℕ) (rows : List Arrow) (n : ℕ) → records_in w m ≤ k → CopiedUpTo (Within m k) way w rows n → CopiedUpTo (Before (m + 1)) way w rows n
  copied_leave m k rows n all = copied_as (Within m k) (Before (m + 1)) rows n (λ a j t kind e l. elim (cases_eq a m) [
    | inl q ↦ inr (q, let lt = subst (λ (y : ℕ). j < records_in w y) q (points_in w a j t kind l.points) in omega (arith, lt))
    | inr ne ↦ inl (omega (arith, e))
  ])

  pub copied_all : (m : ℕ) (rows : List Arrow) (n : ℕ) → count_of w ≤ m → CopiedUpTo (Before m) way w rows n → CopiedUpTo All way w rows n
  copied_all m rows n all = copied_as (Before m) All rows n (λ a j t kind e l. omega (arith, normal_below w a l.points.importer))

  -- a record that does not lead on is passed over
  pub copied_over : (m k : ℕ) (rows : List Arrow) (n : ℕ) → ((t : ℕ) (kind : ImportKind) → Leaving way w m k kind t → ⊥) → CopiedUpTo (Within m k) way w rows n → CopiedUpTo (Within m (k + 1)) way w rows n
  copied_over m k rows n none = copied_as (Within m k) (Within m (k + 1)) rows n narrow
    where
      last : (a j t : ℕ) (kind : ImportKind) → a ≡ m → j < k + 1 → Leaving way w a j kind t → Within m k a j
      last a j t kind e lt l = elim (cases_eq j k) [
        | inl q ↦ absurd (none t kind (subst (λ (y : ℕ). Leaving way w m y kind t) q (subst (λ (y : ℕ). Leaving way w y j kind t) e l)))
        | inr ne ↦ inr (e, omega arith)
      ]

      narrow : (a j t : ℕ) (kind : ImportKind) → Within m (k + 1) a j → Leaving way w a j kind t → Within m k a j
      narrow a j t kind e l = elim e [ inl lt ↦ inl lt | inr q ↦ last a j t kind q.0 q.1 l ]

  -- and one that does is drawn
  module _ (m k t : ℕ) (kind : ImportKind) (here : Leaving way w m k kind t) (same : (y : ℕ) (other : ImportKind) → Leaving way w m k other y → y ≡ t) where
    pub copied_push : (rows : List Arrow) (n : ℕ) → n < length rows → CopiedUpTo (Within m k) way w rows n → CopiedUpTo (Within m (k + 1)) way w (set rows n (drawn way m t)) (n + 1)
    copied_push rows n h c = record { sound = sound; full = full }
      where
        at_n : get_or (set rows n (drawn way m t)) n no_arrow ≡ drawn way m t
        at_n = get_or-set_same rows n (drawn way m t) no_arrow h

        other : (i : ℕ) → (i ≡ n → ⊥) → get_or (set rows n (drawn way m t)) i no_arrow ≡ get_or rows i no_arrow
        other i ne = get_or-set_other rows n i (drawn way m t) no_arrow ne

        sound : (i : ℕ) → i < n + 1 → (a : ℕ) × (y : ℕ) × Step way w a y × (get_or (set rows n (drawn way m t)) i no_arrow ≡ drawn way a y)
        sound i lt = elim (cases_eq i n) [
          | inl e ↦ (m, t, (k, kind, here), ap (λ (y : ℕ). get_or (set rows n (drawn way m t)) y no_arrow) e ∙ at_n)
          | inr ne ↦ let s = c.sound i (omega arith) in (s.0, s.1, s.2, other i ne ∙ s.3)
        ]

        before : (a j y : ℕ) (sort : ImportKind) → Within m k a j → Leaving way w a j sort y → (i : ℕ) × (i < n + 1) × (get_or (set rows n (drawn way m t)) i no_arrow ≡ drawn way a y)
        before a j y sort e l =
            let f = c.full a j y sort e l in
            let ne : f.0 ≡ n → ⊥ = λ q. omega (arith, f.1) in
            (f.0, omega (arith, f.1), other f.0 ne ∙ f.2)

        last : (a j y : ℕ) (sort : ImportKind) → a ≡ m → j < k + 1 → Leaving way w a j sort y → (i : ℕ) × (i < n + 1) × (get_or (set rows n (drawn way m t)) i no_arrow ≡ drawn way a y)
        last a j y sort e lt l = elim (cases_eq j k) [
          | inl q ↦
              let y-is = same y sort (subst (λ (z : ℕ). Leaving way w m z sort y) q (subst (λ (z : ℕ). Leaving way w z j sort y) e l)) in
              (n, omega arith, at_n ∙ ap (λ (z : ℕ). drawn way z t) (sym e) ∙ ap (λ (z : ℕ). drawn way a z) (sym y-is))
          | inr ne ↦ before a j y sort (inr (e, omega arith)) l
        ]

        full : (a j y : ℕ) (sort : ImportKind) → Within m (k + 1) a j → Leaving way w a j sort y → (i : ℕ) × (i < n + 1) × (get_or (set rows n (drawn way m t)) i no_arrow ≡ drawn way a y)
        full a j y sort e l = elim e [ inl lt ↦ before a j y sort (inl lt) l | inr q ↦ last a j y sort q.0 q.1 l ]
