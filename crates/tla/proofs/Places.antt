-- Where rows stand: one place on for each record that gives a row. Assumes nothing.
use Rattle.std.proofs.Common.{◌≡◌, ℕ, ◌+◌, ◌<◌, ◌≤◌, Bool, true, false, cond, List, [], ◌∷◌, length, take, sum_by, refl, ap, ◌∙◌, arith}
use Rattle.std.proofs.lemmas.List.{take_all, take-take}
use Rattle.std.proofs.lemmas.List.Sums.{sum_by-cons, sum_by_more, sum_by-take-le, count_by-le-length, count_by_more_yes, count_by_more_no}
use Rattle.std.proofs.lemmas.Bool.{and_from}
use Rattle.source.specs.declared.ImportKind.TheVariants.{Require}
use Rattle.source.specs.declared.ImportRecord.{ImportRecord}
use Rattle.source.specs.Meaning.{Meaning, Scanned, count_of, records_of, records_in, record_at, past_modules, past_records, record_total}
use Rattle.marks.specs.Records.{Points}
use Rattle.ways.specs.Targets.{is_require}
use Rattle.tla.specs.Rows.{target_waits, gives_row, rows_in, rows_before, row_place, row_total}

module _ {X : Type 0} (f g : X → ℕ) where
  sum_take : (xs : List X) (a b : ℕ) → a ≤ b → sum_by f (take a xs) ≤ sum_by f (take b xs)
  sum_take xs a b le = let same = ap (sum_by f) (take-take a b xs le) in omega (arith, same, sum_by-take-le f (take b xs) a)

  sum_le : ((x : X) → f x ≤ g x) → (xs : List X) → sum_by f xs ≤ sum_by g xs
  sum_le le [] = omega arith
  sum_le le (x ∷ xs) = omega (arith, sum_by-cons f x xs, sum_by-cons g x xs, le x, sum_le le xs)

module _ (w : Meaning) (waits : ℕ → Bool) where
  abbrev one : ImportRecord → ℕ
  one r = cond (gives_row waits r) 1 0

  -- a `Require` of a module that waits gives a row
  pub points_give : (m k t : ℕ) → Points w m k Require t → waits t ≡ true → gives_row waits (record_at w m k) ≡ true
  points_give m k t p e = and_from (is_require (record_at w m k).kind) (target_waits waits (record_at w m k).target) (ap is_require p.by) (ap (target_waits waits) p.to ∙ e)

  pub total_le : row_total w waits ≤ record_total w
  total_le = sum_le (λ (s : Scanned). rows_in waits s.records) (λ (s : Scanned). length s.records) (λ s. count_by-le-length (gives_row waits) s.records) w.modules

  pub before_all : (m : ℕ) → m ≡ count_of w → rows_before w waits m ≡ row_total w waits
  before_all m e = ap (sum_by (λ (s : Scanned). rows_in waits s.records)) (take_all m w.modules (omega arith))

  pub place_none : (m : ℕ) → row_place w waits m 0 ≡ rows_before w waits m
  place_none m = omega arith

  module _ (m : ℕ) (h : m < count_of w) where
    next : rows_before w waits (m + 1) ≡ rows_before w waits m + rows_in waits (records_of w m)
    next = sum_by_more (λ (s : Scanned). rows_in waits s.records) w.modules m past_modules h

    pub place_all : (k : ℕ) → records_in w m ≤ k → row_place w waits m k ≡ rows_before w waits (m + 1)
    place_all k le = let all = ap (rows_in waits) (take_all k (records_of w m) le) in omega (arith, all, next)

    pub place_under : (k b : ℕ) → m < b → row_place w waits m k ≤ rows_before w waits b
    place_under k b lt =
        let part = sum_by-take-le one (records_of w m) k in
        let on = sum_take (λ (s : Scanned). rows_in waits s.records) (λ s. 0) w.modules (m + 1) b (omega arith) in
        omega (arith, next, part, on)

    module _ (k : ℕ) (i : k < records_in w m) where
      pub place_yes : gives_row waits (record_at w m k) ≡ true → row_place w waits m (k + 1) ≡ row_place w waits m k + 1
      place_yes e = let more = count_by_more_yes (gives_row waits) (records_of w m) k past_records i e in omega (arith, more)

      pub place_no : gives_row waits (record_at w m k) ≡ false → row_place w waits m (k + 1) ≡ row_place w waits m k
      place_no e = let same = count_by_more_no (gives_row waits) (records_of w m) k past_records i e in omega (arith, same)

      -- before a later record of the module, and before a later module
      pub place_lt : gives_row waits (record_at w m k) ≡ true → (j : ℕ) → k < j → row_place w waits m k < row_place w waits m j
      place_lt e j lt = let on = sum_take one (λ r. 0) (records_of w m) (k + 1) j (omega arith) in omega (arith, place_yes e, on)

      pub place_before : gives_row waits (record_at w m k) ≡ true → (b : ℕ) → m < b → row_place w waits m k < rows_before w waits b
      place_before e b lt = omega (arith, place_yes e, place_under (k + 1) b lt)

      pub place_room : gives_row waits (record_at w m k) ≡ true → row_place w waits m k < row_total w waits
      place_room e = omega (arith, place_before e (count_of w) h, before_all (count_of w) refl)
