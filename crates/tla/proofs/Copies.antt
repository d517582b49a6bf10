-- The imports that are copied as arrows, record by record in scan order. Assumes nothing.
use Rattle.std.proofs.Common.{◌≡◌, ℕ, ◌+◌, ◌<◌, ◌≤◌, Bool, true, false, List, [], ◌∷◌, ◌++◌, map, length, take, drop, set, Some, None, sum_by, Option, sym, refl, ap, ◌∙◌, subst, append-nil, arith}
use Rattle.std.proofs.lemmas.List.{take_more, take_all, take-append-drop, take_more_set, length-append, length_push, map_push, flat_map_more}
use Rattle.std.proofs.lemmas.List.Sums.{sum_by-cons}
use Rattle.std.specs.List.{flat_map}
use Rattle.source.specs.declared.ImportRecord.{ImportRecord}
use Rattle.source.specs.Meaning.{Meaning, Scanned, count_of, records_of, records_in, record_at, past_records, record_total}
use Rattle.marks.proofs.Records.{none_some}
use Rattle.spread.specs.declared.arrow.Arrow.{Arrow}
use Rattle.ways.specs.Ways.{is_import}
use Rattle.tla.specs.Search.{led_to, imports_in, imports_of, imports_before}
use Rattle.tla.proofs.Segments.{scanned_imports, joined_append, before_more, before_fits}

-- the first n arrows go to these targets
pub record Copied (ts : List ℕ) (arrows : List Arrow) (n : ℕ) : Type 0 where
  pub count : n ≡ length ts
  pub targets : map (λ (a : Arrow). a.to) (take n arrows) ≡ ts

pub copied_more : (ts : List ℕ) (arrows : List Arrow) (n : ℕ) (a : Arrow) → n < length arrows → Copied ts arrows n → Copied (ts ++ a.to ∷ []) (set arrows n a) (n + 1)
copied_more ts arrows n a h c = record {
  count = omega (arith, c.count, length_push ts a.to);
  targets = ap (map (λ (x : Arrow). x.to)) (take_more_set arrows n a h) ∙ map_push (λ (x : Arrow). x.to) (take n arrows) a ∙ ap (λ (xs : List ℕ). xs ++ a.to ∷ []) c.targets;
}

-- a record leads nowhere where it is unresolved or no import
pub led_none : (b : Bool) (target : Option ℕ) → target ≡ None → led_to b target ≡ []
led_none true None e = refl
led_none true (Some t) e = absurd (none_some t (sym e))
led_none false target e = refl

pub led_other : (b : Bool) (target : Option ℕ) → b ≡ false → led_to b target ≡ []
led_other b target e = ap (λ (x : Bool). led_to x target) e

pub led_one : (b : Bool) (target : Option ℕ) (t : ℕ) → b ≡ true → target ≡ Some t → led_to b target ≡ t ∷ []
led_one b target t e f = ap (λ (x : Bool). led_to x target) e ∙ ap (led_to true) f

-- no more arrows than records
led_le : (b : Bool) (target : Option ℕ) → length (led_to b target) ≤ 1
led_le true None = omega arith
led_le true (Some t) = omega arith
led_le false target = omega arith

imports_le : (rs : List ImportRecord) → length (imports_in rs) ≤ length rs
imports_le [] = omega arith
imports_le (r ∷ rs) = omega (arith, length-append (led_to (is_import r.kind) r.target) (imports_in rs), led_le (is_import r.kind) r.target, imports_le rs)

joined_le : (ss : List Scanned) → length (flat_map scanned_imports ss) ≤ sum_by (λ (s : Scanned). length s.records) ss
joined_le [] = omega arith
joined_le (s ∷ ss) = omega (arith, length-append (scanned_imports s) (flat_map scanned_imports ss), imports_le s.records, joined_le ss, sum_by-cons (λ (x : Scanned). length x.records) s ss)

pub imports_total : (w : Meaning) → length (imports_before w (count_of w)) ≤ record_total w
imports_total w =
    let whole = ap (λ (ss : List Scanned). length (flat_map scanned_imports ss)) (take_all (count_of w) w.modules (omega arith)) in
    omega (arith, whole, joined_le w.modules)

module _ (w : Meaning) (m : ℕ) where
  abbrev pub so_far : ℕ → List ℕ
  so_far k = imports_before w m ++ imports_in (take k (records_of w m))

  abbrev pub led : ImportRecord → List ℕ
  led r = led_to (is_import r.kind) r.target

  pub so_far_more : (k : ℕ) → k < records_in w m → so_far (k + 1) ≡ so_far k ++ led (record_at w m k)
  so_far_more k h =
      ap (λ (rs : List ImportRecord). imports_before w m ++ imports_in rs) (take_more (records_of w m) k past_records h)
      ∙ sym (flat_map_more led (imports_before w m) (take k (records_of w m)) (record_at w m k))

  pub so_far_all : (k : ℕ) → m < count_of w → records_in w m ≤ k → so_far k ≡ imports_before w (m + 1)
  so_far_all k h le = ap (λ (rs : List ImportRecord). imports_before w m ++ imports_in rs) (take_all k (records_of w m) le) ∙ sym (before_more w m h)

  so_far_le : (k : ℕ) → m < count_of w → length (so_far k) ≤ length (imports_before w (count_of w))
  so_far_le k h =
      let rs = records_of w m in
      let whole = ap (λ (xs : List ImportRecord). length (imports_in xs)) (sym (take-append-drop k rs)) ∙ ap (λ (xs : List ℕ). length xs) (joined_append led (take k rs) (drop k rs)) ∙ length-append (imports_in (take k rs)) (imports_in (drop k rs)) in
      let next = ap (λ (xs : List ℕ). length xs) (before_more w m h) ∙ length-append (imports_before w m) (imports_of w m) in
      omega (arith, length-append (imports_before w m) (imports_in (take k rs)), whole, next, before_fits w (m + 1))

  module _ (k : ℕ) (arrows : List Arrow) (n : ℕ) (h : m < count_of w) (i : k < records_in w m) (c : Copied (so_far k) arrows n) where
    pub copied_over : led (record_at w m k) ≡ [] → Copied (so_far (k + 1)) arrows n
    copied_over e = subst (λ (ts : List ℕ). Copied ts arrows n) (sym (so_far_more k i ∙ ap (λ (ts : List ℕ). so_far k ++ ts) e ∙ append-nil (so_far k))) c

    module _ (t : ℕ) (e : led (record_at w m k) ≡ t ∷ []) where
      more : so_far (k + 1) ≡ so_far k ++ t ∷ []
      more = so_far_more k i ∙ ap (λ (ts : List ℕ). so_far k ++ ts) e

      pub copied_room : record_total w ≤ length arrows → n < length arrows
      copied_room fits =
          let long = ap (λ (ts : List ℕ). length ts) more ∙ length_push (so_far k) t in
          omega (arith, long, so_far_le (k + 1) h, imports_total w, c.count)

      pub copied_push : (a : Arrow) → a.to ≡ t → n < length arrows → Copied (so_far (k + 1)) (set arrows n a) (n + 1)
      copied_push a to lt =
          subst (λ (ts : List ℕ). Copied ts (set arrows n a) (n + 1)) (sym (more ∙ ap (λ (y : ℕ). so_far k ++ y ∷ []) (sym to))) (copied_more (so_far k) arrows n a lt c)
