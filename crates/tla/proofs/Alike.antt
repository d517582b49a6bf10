-- The await rows leave no choice. Assumes nothing.
use Rattle.std.proofs.Common.{◌≡◌, ℕ, ◌<◌, List, Some, sym, refl, ap, ◌∙◌, subst, inl, inr, arith}
use Rattle.std.proofs.lemmas.List.{ext_get_or}
use Rattle.std.proofs.lemmas.Bool.{cases_lt}
use Rattle.source.specs.declared.ImportKind.TheVariants.{Require}
use Rattle.source.specs.Meaning.{Meaning, Proper, count_of, module_at}
use Rattle.marks.specs.declared.rows.AwaitRow.{AwaitRow}
use Rattle.marks.proofs.Records.{some_is, normal_below, points_in}
use Rattle.ways.specs.Ways.{Targets}
use Rattle.tla.specs.Rows.{await_span, no_row, row_in, RowOf, AwaitRows}
use Rattle.tla.proofs.Counted.{same_place, same_before}
use Rattle.tla.proofs.Only.{only_one}

module _ (w : Meaning) (proper : Proper w) (targets : Targets w) where
  one_row : (m k t : ℕ) (x y : AwaitRow) → t < count_of w → RowOf w m k t x → RowOf w m k t y → x ≡ y
  one_row m k t x y h p q = λ i. record { importer = by i; «record» = at i; source = found i; span = asked i; await_span = awaited i }
    where
      by : x.importer ≡ y.importer
      by = p.by ∙ sym q.by

      at : x.«record» ≡ y.«record»
      at = p.at ∙ sym q.at

      found : x.source ≡ y.source
      found = some_is (Some x.source) x.source y.source refl (only_one w proper targets t h (Some x.source) (Some y.source) p.found q.found)

      asked : x.span ≡ y.span
      asked = p.asked ∙ sym q.asked

      awaited : x.await_span ≡ y.await_span
      awaited = p.awaited ∙ ap (λ (s : ℕ). await_span (module_at w s)) found ∙ sym q.awaited

  pub one_list : (old xs ys : List AwaitRow) (n : ℕ) → AwaitRows w old xs n → AwaitRows w old ys n → xs ≡ ys
  one_list old xs ys n p q = ext_get_or no_row xs ys (p.long ∙ sym q.long) (λ i lt. at_row i)
    where
      at_row : (i : ℕ) → row_in xs i ≡ row_in ys i
      at_row i = elim (cases_lt i n) [
        | inl lt ↦
            let a = p.all i lt in
            let m = a.importer in
            let k = a.place in
            let t = a.target in
            let below = targets m t (k, Require, a.points) in
            let waits = (p.when t below).0 a.waiting in
            let m-in = normal_below w m a.points.importer in
            let k-in = points_in w m k t Require a.points in
            let before = same_before w proper targets p.waits q.waits p.when q.when m (omega arith) in
            let place = same_place w proper targets p.waits q.waits p.when q.when m k m-in (omega arith) before in
            let mine = subst (λ (j : ℕ). RowOf w m k t (row_in xs j)) a.here (p.each m k t a.points waits) in
            let other = subst (λ (j : ℕ). RowOf w m k t (row_in ys j)) (sym place ∙ a.here) (q.each m k t a.points waits) in
            one_row m k t (row_in xs i) (row_in ys i) below mine other
        | inr ge ↦ p.rest i ge ∙ sym (q.rest i ge)
      ]
