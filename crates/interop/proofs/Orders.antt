-- What rows come to depends on which rows occur. Assumes nothing.
use Rattle.std.proofs.Common.{◌≡◌, ℕ, ◌+◌, Bool, true, false, not, ◌&&◌, ◌||◌, ltb, List, [], ◌∷◌, is_ok, Some, Ok, Err, Option, sym, refl, ap, ◌∙◌, true≢false}
use mathlib.Core.Bool.{false≢true}
use mathlib.Core.List.{Memᴰ}
use Rattle.faults.specs.declared.Fault.{Fault}
use Rattle.faults.specs.Faults.{Verdict, refuse_if, and_then, each}
use Rattle.source.specs.Meaning.{Meaning, count_of}
use Rattle.spread.specs.declared.interop_use.InteropUse.{InteropUse}
use Rattle.spread.specs.Kinds.{use_join}
use Rattle.spread.proofs.Order.{Lattice, zero_below, below_trans, below_antisym, above_left, above_right, join_below}
use Rattle.interop.specs.declared.chunk_assignments.ChunkAssignments.{ChunkAssignments}
use Rattle.interop.specs.declared.rows.ImportRow.{ImportRow}
use Rattle.interop.specs.declared.rows.ObserverRow.{ObserverRow}
use Rattle.interop.specs.Checks.{past_source, observers_verdict, imports_verdict, rows_verdict, answer}
use Rattle.interop.specs.Interop.{observed, written, node_observer, node_importer, recorded_use_of, recorded_use_answer, modes_answer, reader_answer}
use Rattle.interop.specs.Joins.{joined, all_uses, any}
use Rattle.interop.specs.Orders.{SameRows, given, OfRows, OfBothRows}
use Rattle.interop.proofs.Joins.{any_laws, use_laws, any_joined}

module _ {Row Fact : Type 0} {least : Fact} {join : Fact → Fact → Fact} (laws : Lattice least join) (of : Row → Fact) where
  -- the join covers each row, and is covered by what covers each
  covers : (rows : List Row) (row : Row) → Memᴰ row rows → join (joined least join of rows) (of row) ≡ joined least join of rows
  covers [] row m = elim m [ ]
  covers (x ∷ rows) row (Memᴰ.head e) = ap (λ (y : Row). join (joined least join of (x ∷ rows)) (of y)) e ∙ above_left laws (of x) (joined least join of rows)
  covers (x ∷ rows) row (Memᴰ.tail m) = below_trans laws (of row) (joined least join of rows) (joined least join of (x ∷ rows)) (covers rows row m) (above_right laws (of x) (joined least join of rows))

  covered : (rows : List Row) (top : Fact) → ((row : Row) → Memᴰ row rows → join top (of row) ≡ top) → join top (joined least join of rows) ≡ top
  covered [] top each = zero_below laws top
  covered (x ∷ rows) top each = join_below laws (of x) (joined least join of rows) top (each x (Memᴰ.head refl)) (covered rows top (λ row m. each row (Memᴰ.tail m)))

  pub same_joined : (rows others : List Row) → SameRows rows others → joined least join of rows ≡ joined least join of others
  same_joined rows others same =
      below_antisym laws _ _
      (covered rows (joined least join of others) (λ row m. covers others row ((same row).0 m)))
      (covered others (joined least join of rows) (λ row m. covers rows row ((same row).1 m)))

same_any : {Row : Type 0} (test : Row → Bool) (rows others : List Row) → SameRows rows others → any test rows ≡ any test others
same_any test rows others same = any_joined test rows ∙ same_joined any_laws test rows others same ∙ sym (any_joined test others)

-- a check of every row passes where no row is bad
each_passed : {Row : Type 0} (bad : Row → Bool) (found : ℕ → Fault) (i : ℕ) (rows : List Row) → is_ok (each (λ k row. refuse_if (bad row) (found k)) i rows) ≡ not (any bad rows)
each_passed bad found i [] = refl
each_passed bad found i (row ∷ rows) =
    elim (bad row) as (λ b. is_ok (and_then (refuse_if b (found i)) (each (λ k row. refuse_if (bad row) (found k)) (i + 1) rows)) ≡ not (b || any bad rows)) [
      | true ↦ refl
      | false ↦ each_passed bad found (i + 1) rows
    ]

both_passed : (a b : Verdict) → is_ok (and_then a b) ≡ (is_ok a && is_ok b)
both_passed (Ok u) b = refl
both_passed (Err f) b = refl

same_each : {Row : Type 0} (bad : Row → Bool) (found : ℕ → Fault) (rows others : List Row) → SameRows rows others → is_ok (each (λ k row. refuse_if (bad row) (found k)) 0 rows) ≡ is_ok (each (λ k row. refuse_if (bad row) (found k)) 0 others)
same_each bad found rows others same = each_passed bad found 0 rows ∙ ap not (same_any bad rows others same) ∙ sym (each_passed bad found 0 others)

same_given : {A : Type 0} (v u : Verdict) (a b : A) → is_ok v ≡ is_ok u → a ≡ b → given (answer v a) ≡ given (answer u b)
same_given (Ok x) (Ok y) a b e is = ap Some is
same_given (Ok x) (Err g) a b e is = absurd (true≢false e)
same_given (Err f) (Ok y) a b e is = absurd (false≢true e)
same_given (Err f) (Err g) a b e is = refl

module _ (w : Meaning) where
  same_observers : (observers others : List ObserverRow) → SameRows observers others → is_ok (observers_verdict w observers) ≡ is_ok (observers_verdict w others)
  same_observers observers others same = same_each (λ (row : ObserverRow). not (ltb row.observer (count_of w))) past_source observers others same

  same_imports : (imports more : List ImportRow) → SameRows imports more → is_ok (imports_verdict w imports) ≡ is_ok (imports_verdict w more)
  same_imports imports more same = same_each (λ (row : ImportRow). not (ltb row.importer (count_of w))) past_source imports more same

  same_rows : (observers others : List ObserverRow) (imports more : List ImportRow) → SameRows observers others → SameRows imports more → is_ok (rows_verdict w observers imports) ≡ is_ok (rows_verdict w others more)
  same_rows observers others imports more o i =
      both_passed (observers_verdict w observers) (imports_verdict w imports)
      ∙ ap (λ (b : Bool). b && is_ok (imports_verdict w imports)) (same_observers observers others o)
      ∙ ap (λ (b : Bool). is_ok (observers_verdict w others) && b) (same_imports imports more i)
      ∙ sym (both_passed (observers_verdict w others) (imports_verdict w more))

  module _ (chunks : ChunkAssignments) (namespace chunk : ℕ) where
    same_recorded : (observers others : List ObserverRow) → SameRows observers others → recorded_use_of chunks namespace chunk observers ≡ recorded_use_of chunks namespace chunk others
    same_recorded observers others same = same_joined use_laws (observed chunks namespace chunk) observers others same

    pub recorded_use_of_rows : OfRows (recorded_use_answer w chunks namespace chunk)
    recorded_use_of_rows rows others same = same_given (observers_verdict w rows) (observers_verdict w others) _ _ (same_observers rows others same) (same_recorded rows others same)

    pub modes_of_rows : OfBothRows (modes_answer w chunks namespace chunk)
    modes_of_rows observers others imports more o i =
        same_given (rows_verdict w observers imports) (rows_verdict w others more) _ _ (same_rows observers others imports more o i)
        (ap (λ (u : Option InteropUse). use_join u (all_uses (written w) imports)) (same_recorded observers others o)
        ∙ ap (use_join (recorded_use_of chunks namespace chunk others)) (same_joined use_laws (written w) imports more i))

    pub reader_of_rows : OfBothRows (reader_answer w chunks namespace chunk)
    reader_of_rows observers others imports more o i =
        same_given (rows_verdict w observers imports) (rows_verdict w others more) _ _ (same_rows observers others imports more o i)
        (ap (λ (b : Bool). b || any (node_importer w) imports) (same_any (node_observer w chunks namespace chunk) observers others o)
        ∙ ap (λ (b : Bool). any (node_observer w chunks namespace chunk) others || b) (same_any (node_importer w) imports more i))
