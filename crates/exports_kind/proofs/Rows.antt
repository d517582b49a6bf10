-- How rows read, and what stands in them after a write. Assumes nothing.
use Rattle.std.proofs.Common.{◌≡◌, ℕ, ◌<◌, Bool, true, false, cond, List, length, set, sym, refl, ap, ◌∙◌, inl}
use Rattle.std.proofs.lemmas.List.{get_or-set_same, get_or-set_other}
use Rattle.source.specs.declared.ExportsKind.{ExportsKind}
use Rattle.source.specs.declared.ExportsKind.TheVariants.{None as Unknown, Esm, CommonJs}
use Rattle.marks.specs.declared.rows.MarkRow.{MarkRow}
use Rattle.marks.specs.declared.rows.WrapKind.{WrapKind}
use Rattle.marks.specs.declared.rows.WrapKind.TheVariants.{None as Unwrapped}
use Rattle.marks.specs.Rules.{agrees, is_wrapped, wrap_of, read_wrap, cleared, read_row}
use Rattle.marks.specs.Rows.{row_at, keeps_rule, Raised}
use Rattle.marks.proofs.Writes.{reads_by_kind}

-- a row reads as wrapped
abbrev pub row_wrapped : MarkRow → Bool
row_wrapped row = is_wrapped (read_wrap row.kind row.wrap)

-- a row marked with a kind keeps the rule, and reads as it was marked
pub rule_of : (kind : ExportsKind) (wrapped : Bool) → agrees kind (cond wrapped (wrap_of kind) Unwrapped) ≡ true
rule_of Unknown true = refl
rule_of Unknown false = refl
rule_of Esm true = refl
rule_of Esm false = refl
rule_of CommonJs true = refl
rule_of CommonJs false = refl

pub wrapped_of : (kind : ExportsKind) (wrapped : Bool) → is_wrapped (read_wrap kind (cond wrapped (wrap_of kind) Unwrapped)) ≡ wrapped
wrapped_of Unknown true = refl
wrapped_of Unknown false = refl
wrapped_of Esm true = refl
wrapped_of Esm false = refl
wrapped_of CommonJs true = refl
wrapped_of CommonJs false = refl

-- a row as it reads is the row marked with its own kind
pub read_rule : (row : MarkRow) → keeps_rule (read_row row)
read_rule row = ap (agrees row.kind) (reads_by_kind row.kind row.wrap) ∙ rule_of row.kind (row_wrapped row)

pub read_wrapped : (row : MarkRow) → row_wrapped (read_row row) ≡ row_wrapped row
read_wrapped row = ap (λ (wrap : WrapKind). is_wrapped (read_wrap row.kind wrap)) (reads_by_kind row.kind row.wrap) ∙ wrapped_of row.kind (row_wrapped row)

pub row_same : (rows : List MarkRow) (t : ℕ) (row : MarkRow) → t < length rows → row_at (set rows t row) t ≡ row
row_same rows t row h = get_or-set_same rows t row (cleared Unknown) h

pub row_other : (rows : List MarkRow) (t x : ℕ) (row : MarkRow) → (x ≡ t → ⊥) → row_at (set rows t row) x ≡ row_at rows x
row_other rows t x row ne = get_or-set_other rows t x row (cleared Unknown) ne

-- a mark that stays as it was
pub raised_nowhere : {old new : Bool} → new ≡ old → Raised ⊥ old new
raised_nowhere e = record { kept = λ h. e ∙ h; made = λ z. absurd z; only = λ h. inl (sym e ∙ h) }
