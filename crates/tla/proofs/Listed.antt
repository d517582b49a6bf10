-- The rows that are written, record by record in scan order. Assumes nothing.
use Rattle.std.proofs.Common.{◌≡◌, ℕ, ◌+◌, ◌<◌, ◌≤◌, Bool, true, false, List, length, set, sym, ap, ◌∙◌, subst, inl, inr, arith}
use Rattle.std.proofs.lemmas.List.{get_or-set_same, get_or-set_other}
use Rattle.std.proofs.lemmas.Bool.{both_ways, cases_eq}
use Rattle.source.specs.declared.ImportKind.TheVariants.{Require}
use Rattle.source.specs.Meaning.{Meaning, count_of, records_in, record_at}
use Rattle.marks.specs.declared.rows.AwaitRow.{AwaitRow}
use Rattle.marks.specs.Records.{Points}
use Rattle.marks.proofs.Records.{points_in, some_is}
use Rattle.tla.specs.Rows.{gives_row, rows_before, row_place, no_row, row_in, RowOf, RowsWritten}
use Rattle.tla.proofs.Places.{points_give, place_all, place_yes, place_no, place_lt, place_before}

-- what is written of module m once its first k records are done
pub record ModuleRows (w : Meaning) (waits : ℕ → Bool) (m k : ℕ) (old new : List AwaitRow) (n : ℕ) : Type 0 where
  pub count : n ≡ row_place w waits m k
  pub here : (j t : ℕ) → j < k → Points w m j Require t → waits t ≡ true → RowOf w m j t (row_in new (row_place w waits m j))
  pub kept : (i : ℕ) → i < rows_before w waits m → row_in new i ≡ row_in old i
  pub rest : (i : ℕ) → n ≤ i → row_in new i ≡ row_in old i

module _ (w : Meaning) (waits : ℕ → Bool) where
  module _ (m : ℕ) (old : List AwaitRow) where
    module _ (h : m < count_of w) (k : ℕ) (new : List AwaitRow) (n : ℕ) (i : k < records_in w m) (r : ModuleRows w waits m k old new n) where
      pub module_over : gives_row waits (record_at w m k) ≡ false → ModuleRows w waits m (k + 1) old new n
      module_over e = record {
        count = r.count ∙ sym (place_no w waits m h k i e);
        here = λ j t lt p y. elim (cases_eq j k) [
          | inl q ↦ absurd (both_ways _ (ap (λ (x : ℕ). gives_row waits (record_at w m x)) q ∙ e) (points_give w waits m j t p y))
          | inr ne ↦ r.here j t (omega arith) p y
        ];
        kept = r.kept;
        rest = r.rest;
      }

      module _ (t : ℕ) (row : AwaitRow) (points : Points w m k Require t) (waiting : waits t ≡ true) (is : RowOf w m k t row) (room : n < length new) where
        yes : gives_row waits (record_at w m k) ≡ true
        yes = points_give w waits m k t points waiting

        other : (x : ℕ) → (x ≡ n → ⊥) → row_in (set new n row) x ≡ row_in new x
        other x ne = get_or-set_other new n x row no_row ne

        last : (u : ℕ) → Points w m k Require u → RowOf w m k u (row_in (set new n row) (row_place w waits m k))
        last u p =
            let same : row_in (set new n row) (row_place w waits m k) ≡ row = ap (row_in (set new n row)) (sym r.count) ∙ get_or-set_same new n row no_row room in
            subst (λ (x : AwaitRow). RowOf w m k u x) (sym same) (subst (λ (x : ℕ). RowOf w m k x row) (some_is (record_at w m k).target t u points.to p.to) is)

        pub module_push : ModuleRows w waits m (k + 1) old (set new n row) (n + 1)
        module_push = record {
          count = omega (arith, r.count, place_yes w waits m h k i yes);
          here = λ j u lt p y. elim (cases_eq j k) [
            | inl q ↦ subst (λ (x : ℕ). RowOf w m x u (row_in (set new n row) (row_place w waits m x))) (sym q) (last u (subst (λ (x : ℕ). Points w m x Require u) q p))
            | inr ne ↦
                let under = place_lt w waits m h j (points_in w m j u Require p) (points_give w waits m j u p y) k (omega arith) in
                subst (λ (x : AwaitRow). RowOf w m j u x) (sym (other (row_place w waits m j) (λ e. omega (arith, under, r.count)))) (r.here j u (omega arith) p y)
          ];
          kept = λ x lt. other x (λ e. omega (arith, r.count)) ∙ r.kept x lt;
          rest = λ x le. other x (λ e. omega arith) ∙ r.rest x (omega arith);
        }

  -- a module that is done
  pub written_more : (m k : ℕ) (old mid new : List AwaitRow) (start n : ℕ) → m < count_of w → records_in w m ≤ k → RowsWritten w waits m old mid start → ModuleRows w waits m k mid new n → RowsWritten w waits (m + 1) old new n
  written_more m k old mid new start n h done before r = record { count = r.count ∙ place_all w waits m h k done; each = each; rest = rest }
    where
      each : (a j t : ℕ) → a < m + 1 → Points w a j Require t → waits t ≡ true → RowOf w a j t (row_in new (row_place w waits a j))
      each a j t lt p y = elim (cases_eq a m) [
        | inl q ↦
            let p-m = subst (λ (x : ℕ). Points w x j Require t) q p in
            let j-in = points_in w m j t Require p-m in
            subst (λ (x : ℕ). RowOf w x j t (row_in new (row_place w waits x j))) (sym q) (r.here j t (omega (arith, j-in)) p-m y)
        | inr ne ↦
            let under = place_before w waits a (omega arith) j (points_in w a j t Require p) (points_give w waits a j t p y) m (omega arith) in
            subst (λ (x : AwaitRow). RowOf w a j t x) (sym (r.kept (row_place w waits a j) under)) (before.each a j t (omega arith) p y)
      ]

      rest : (i : ℕ) → n ≤ i → row_in new i ≡ row_in old i
      rest i le = r.rest i le ∙ before.rest i (omega (arith, before.count, r.count))
