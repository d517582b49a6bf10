-- Rows that are written by a rule of each place, and what a row that was read keeps. Assumes nothing.
use Rattle.std.proofs.Common.{◌≡◌, ℕ, ◌+◌, ◌<◌, ◌≤◌, Bool, true, false, cond, ◌||◌, ◌↔◌, List, length, set, slice_index_or, sym, refl, ◌∙◌, subst, inl, inr, arith}
use Rattle.std.proofs.lemmas.List.{get_or-set_same, get_or-set_other, length-set}
use Rattle.std.proofs.lemmas.Bool.{cases_eq, or_cases, or_left, or_right}
use Rattle.source.specs.declared.ExportsKind.{ExportsKind}
use Rattle.source.specs.declared.ExportsKind.TheVariants.{None as Unknown, Esm, CommonJs}
use Rattle.marks.specs.declared.rows.MarkRow.{MarkRow}
use Rattle.marks.specs.declared.rows.WrapKind.{WrapKind}
use Rattle.marks.specs.declared.rows.WrapKind.TheVariants.{None as Unwrapped, Cjs as AsCjs, Esm as AsEsm}
use Rattle.marks.specs.Rules.{agrees, is_wrapped, wrap_of, read_wrap, cleared}
use Rattle.marks.specs.Rows.{row_at, Raised, Written}

-- rows that `write_front` wrote, by a rule that writes each as it should be
pub written_front : {n count : ℕ} {Row : ℕ → MarkRow → MarkRow → Type 0} {old new : List MarkRow} → count ≡ n → length new ≡ length old → ((m : ℕ) (d : MarkRow) → m < count → Row m (slice_index_or old m d) (slice_index_or new m d)) → ((m : ℕ) (d : MarkRow) → count ≤ m → slice_index_or new m d ≡ slice_index_or old m d) → Written n Row old new
written_front counted long each rest = record {
  long = long;
  each = λ m h. each m (cleared Unknown) (omega (arith, h, counted));
  rest = λ m h. rest m (cleared Unknown) (omega (arith, h, counted));
}

-- rows that are written one after another
module _ (Row : ℕ → MarkRow → MarkRow → Type 0) where
  pub written_none : (rows : List MarkRow) → Written 0 Row rows rows
  written_none rows = record { long = refl; each = λ m h. absurd (omega arith); rest = λ m h. refl }

  pub written_more : (n : ℕ) (old cur : List MarkRow) (row : MarkRow) → n < length cur → Row n (row_at cur n) row → Written n Row old cur → Written (n + 1) Row old (set cur n row)
  written_more n old cur row h here w = record { long = length-set cur n row ∙ w.long; each = each; rest = rest }
    where
      other : (m : ℕ) → (m ≡ n → ⊥) → row_at (set cur n row) m ≡ row_at cur m
      other m ne = get_or-set_other cur n m row (cleared Unknown) ne

      each : (m : ℕ) → m < n + 1 → Row m (row_at old m) (row_at (set cur n row) m)
      each m lt = elim (cases_eq m n) [
        | inl e ↦ subst (λ (k : ℕ). Row k (row_at old k) (row_at (set cur n row) k)) (sym e) (subst (λ (r : MarkRow). Row n (row_at old n) r) (sym (get_or-set_same cur n row (cleared Unknown) h)) (subst (λ (r : MarkRow). Row n r row) (w.rest n (omega arith)) here))
        | inr ne ↦ subst (λ (r : MarkRow). Row m (row_at old m) r) (sym (other m ne)) (w.each m (omega arith))
      ]

      rest : (m : ℕ) → n + 1 ≤ m → row_at (set cur n row) m ≡ row_at old m
      rest m le = other m (λ e. omega arith) ∙ w.rest m (omega arith)

-- a row as it reads keeps the rule, and reads as itself
pub read_agrees : (kind : ExportsKind) (wrap : WrapKind) → agrees kind (read_wrap kind wrap) ≡ true
read_agrees Unknown Unwrapped = refl
read_agrees Unknown AsCjs = refl
read_agrees Unknown AsEsm = refl
read_agrees Esm Unwrapped = refl
read_agrees Esm AsCjs = refl
read_agrees Esm AsEsm = refl
read_agrees CommonJs Unwrapped = refl
read_agrees CommonJs AsCjs = refl
read_agrees CommonJs AsEsm = refl

pub read_again : (kind : ExportsKind) (wrap : WrapKind) → read_wrap kind (read_wrap kind wrap) ≡ read_wrap kind wrap
read_again Unknown Unwrapped = refl
read_again Unknown AsCjs = refl
read_again Unknown AsEsm = refl
read_again Esm Unwrapped = refl
read_again Esm AsCjs = refl
read_again Esm AsEsm = refl
read_again CommonJs Unwrapped = refl
read_again CommonJs AsCjs = refl
read_again CommonJs AsEsm = refl

-- a row reads as unwrapped or as wrapped by its kind
pub reads_by_kind : (kind : ExportsKind) (wrap : WrapKind) → read_wrap kind wrap ≡ cond (is_wrapped (read_wrap kind wrap)) (wrap_of kind) Unwrapped
reads_by_kind Unknown Unwrapped = refl
reads_by_kind Esm Unwrapped = refl
reads_by_kind CommonJs Unwrapped = refl
reads_by_kind Unknown AsCjs = refl
reads_by_kind Esm AsCjs = refl
reads_by_kind CommonJs AsCjs = refl
reads_by_kind Unknown AsEsm = refl
reads_by_kind Esm AsEsm = refl
reads_by_kind CommonJs AsEsm = refl

-- wrapped by its kind or not, a row keeps the rule and reads as wrapped just where it was to be
pub mark_agrees : (kind : ExportsKind) (b : Bool) → agrees kind (cond b (wrap_of kind) Unwrapped) ≡ true
mark_agrees Unknown true = refl
mark_agrees Unknown false = refl
mark_agrees Esm true = refl
mark_agrees Esm false = refl
mark_agrees CommonJs true = refl
mark_agrees CommonJs false = refl

pub mark_wrapped : (kind : ExportsKind) (b : Bool) → is_wrapped (read_wrap kind (cond b (wrap_of kind) Unwrapped)) ≡ b
mark_wrapped Unknown true = refl
mark_wrapped Unknown false = refl
mark_wrapped Esm true = refl
mark_wrapped Esm false = refl
mark_wrapped CommonJs true = refl
mark_wrapped CommonJs false = refl

-- a flag that stays, and one that is joined with a test
pub raised_stays : {a b : Bool} → b ≡ a → Raised ⊥ a b
raised_stays e = record { kept = λ o. e ∙ o; made = λ p. absurd p; only = λ n. inl (sym e ∙ n) }

pub raised_or : {P : Type 0} (a b c : Bool) → c ≡ (a || b) → (b ≡ true) ↔ P → Raised P a c
raised_or a b c e t = record {
  kept = λ o. e ∙ or_left a b o;
  made = λ p. e ∙ or_right a b (t.1 p);
  only = λ n. elim (or_cases a b (sym e ∙ n)) [ inl x ↦ inl x | inr y ↦ inr (t.0 y) ];
}
