-- What has become of one row. Assumes nothing.
use Rattle.std.proofs.Common.{◌≡◌, Bool, true, ◌||◌, ◌⊎◌, ◌↔◌, sym, refl, ap, ◌∙◌, subst, inl, inr}
use Rattle.std.proofs.lemmas.Bool.{or_cases, or_left, or_right}
use Rattle.source.specs.declared.ImportKind.{ImportKind}
use Rattle.source.specs.declared.ExportsKind.{ExportsKind}
use Rattle.source.specs.declared.ExportsKind.TheVariants.{None as Unknown, Esm, CommonJs}
use Rattle.source.specs.declared.Module.{Module}
use Rattle.source.specs.declared.Module.TheVariants.{Normal}
use Rattle.source.specs.declared.NormalModule.{NormalModule}
use Rattle.marks.specs.declared.options.LinkOptions.{LinkOptions}
use Rattle.marks.specs.declared.rows.MarkRow.{MarkRow}
use Rattle.marks.specs.declared.rows.WrapKind.{WrapKind}
use Rattle.marks.specs.Records.{acts_as_require}
use Rattle.marks.specs.Rules.{read_row, marked_row}
use Rattle.marks.specs.Rows.{keeps_rule}
use Rattle.marks.specs.Kinds.{or_else, makes, importer_rule}
use Rattle.exports_kind.specs.Steps.{after_record, after_importer, after_importer_of}
use Rattle.exports_kind.proofs.Rows.{row_wrapped, rule_of, wrapped_of, read_rule, read_wrapped}
use Rattle.marks.proofs.Makes.{unknown_common, esm_common, or_else_common, makes_common}
use Rattle.exports_kind.proofs.Makes.{or_else_unknown, or_else_assoc}

-- the importer rule wraps a CommonJS module
pub record Ruled (o : LinkOptions) (d : Module) (kind : ExportsKind) : Type 0 where
  pub n : NormalModule
  pub normal : d ≡ Normal n
  pub common : kind ≡ CommonJs
  pub wraps : importer_rule o n ≡ true

abbrev pub with_mark : MarkRow → ExportsKind → WrapKind → MarkRow
with_mark row kind wrap = record { kind = kind; wrap = wrap; required = row.required; dynamic = row.dynamic; awaiting = row.awaiting; entries = row.entries }

-- from old to row, records have made K of an unknown kind, and required the module if R
pub record Turned (o : LinkOptions) (d : Module) (K : ExportsKind) (R : Type 0) (old row : MarkRow) : Type 0 where
  pub kind : row.kind ≡ or_else old.kind K
  pub kept : row_wrapped old ≡ true → row_wrapped row ≡ true
  pub made : R → row_wrapped row ≡ true
  pub turned : row.kind ≡ CommonJs → (old.kind ≡ CommonJs) ⊎ (row_wrapped row ≡ true)
  pub only : row_wrapped row ≡ true → (row_wrapped old ≡ true) ⊎ (R ⊎ Ruled o d row.kind)
  pub rule : keeps_rule old → keeps_rule row
  pub rest : row ≡ with_mark old row.kind row.wrap

module _ {o : LinkOptions} {d : Module} where
  pub turned_none : {R : Type 0} {row : MarkRow} → (R → ⊥) → Turned o d Unknown R row row
  turned_none {R} {row} nor = record {
    kind = sym (or_else_unknown row.kind);
    kept = λ e. e;
    made = λ r. absurd (nor r);
    turned = λ e. inl e;
    only = λ e. inl e;
    rule = λ e. e;
    rest = refl;
  }

  turned_read : (row : MarkRow) → Turned o d Unknown ⊥ row (read_row row)
  turned_read row = record {
    kind = sym (or_else_unknown row.kind);
    kept = λ e. read_wrapped row ∙ e;
    made = λ r. absurd r;
    turned = λ e. inl e;
    only = λ e. inl (sym (read_wrapped row) ∙ e);
    rule = λ e. read_rule row;
    rest = refl;
  }

  -- a step that marks the row, and wraps it if b
  turned_marked : (K : ExportsKind) (R : Type 0) (kind : ExportsKind) (b : Bool) (row : MarkRow) → kind ≡ or_else row.kind K → (R → b ≡ true) → (K ≡ CommonJs → b ≡ true) → (b ≡ true → R ⊎ Ruled o d kind) → Turned o d K R row (marked_row row kind (b || row_wrapped row))
  turned_marked K R kind b row kind_is asks common why = record {
    kind = kind_is;
    kept = λ e. is ∙ or_right b (row_wrapped row) e;
    made = λ r. is ∙ or_left b (row_wrapped row) (asks r);
    turned = λ e. elim (or_else_common row.kind K (sym kind_is ∙ e)) [ inl x ↦ inl x | inr x ↦ inr (is ∙ or_left b (row_wrapped row) (common x)) ];
    only = λ e. elim (or_cases b (row_wrapped row) (sym is ∙ e)) [ inl x ↦ inr (why x) | inr x ↦ inl x ];
    rule = λ e. rule_of kind (b || row_wrapped row);
    rest = refl;
  }
    where
      is : row_wrapped (marked_row row kind (b || row_wrapped row)) ≡ (b || row_wrapped row)
      is = wrapped_of kind (b || row_wrapped row)

  pub turned_as : {K L : ExportsKind} {R S : Type 0} {old row : MarkRow} → K ≡ L → R ↔ S → Turned o d K R old row → Turned o d L S old row
  turned_as {K} {L} {R} {S} {old} {row} e f t = record {
    kind = t.kind ∙ ap (or_else old.kind) e;
    kept = t.kept;
    made = λ s. t.made (f.1 s);
    turned = t.turned;
    only = λ x. elim (t.only x) [ inl y ↦ inl y | inr y ↦ elim y [ inl r ↦ inr (inl (f.0 r)) | inr r ↦ inr (inr r) ] ];
    rule = t.rule;
    rest = t.rest;
  }

  -- one after another
  pub turned_on : {K L : ExportsKind} {R S : Type 0} {a b c : MarkRow} → Turned o d K R a b → Turned o d L S b c → Turned o d (or_else K L) (R ⊎ S) a c
  turned_on {K} {L} {R} {S} {a} {b} {c} p q = record {
    kind = q.kind ∙ ap (λ (x : ExportsKind). or_else x L) p.kind ∙ or_else_assoc a.kind K L;
    kept = λ e. q.kept (p.kept e);
    made = λ x. elim x [ inl r ↦ q.kept (p.made r) | inr s ↦ q.made s ];
    turned = λ e. elim (q.turned e) [ inl x ↦ elim (p.turned x) [ inl y ↦ inl y | inr y ↦ inr (q.kept y) ] | inr x ↦ inr x ];
    only = λ e. elim (q.only e) [
      | inl x ↦ elim (p.only x) [ inl y ↦ inl y | inr y ↦ elim y [ inl r ↦ inr (inl (inl r)) | inr u ↦ inr (inr (later u)) ] ]
      | inr x ↦ elim x [ inl s ↦ inr (inl (inr s)) | inr u ↦ inr (inr u) ]
    ];
    rule = λ e. q.rule (p.rule e);
    rest = q.rest ∙ ap (λ (r : MarkRow). with_mark r c.kind c.wrap) p.rest;
  }
    where
      later : Ruled o d b.kind → Ruled o d c.kind
      later u = record { n = u.n; normal = u.normal; common = q.kind ∙ ap (λ (x : ExportsKind). or_else x L) u.common; wraps = u.wraps }

  -- a record that is resolved to the module
  pub turned_by_record : (n : NormalModule) (kind : ImportKind) (row : MarkRow) → Turned o d (makes o n kind) (acts_as_require o kind ≡ true) row (after_record o n kind (read_row row))
  turned_by_record n kind row =
      turned_marked (makes o n kind) (acts_as_require o kind ≡ true) (or_else row.kind (makes o n kind)) (acts_as_require o kind) row refl (λ e. e) (makes_common o n kind) (λ e. inl e)

-- the importer rule, after a module's records
closing : (o : LinkOptions) (n : NormalModule) (kind : ExportsKind) (row : MarkRow) → row.kind ≡ kind → Turned o (Normal n) Unknown ⊥ row (after_importer_of o n kind (read_row row))
closing o n Unknown row e = turned_read row
closing o n Esm row e = turned_read row
closing o n CommonJs row e =
    turned_marked Unknown ⊥ CommonJs (importer_rule o n) row (sym (ap (λ (x : ExportsKind). or_else x Unknown) e)) (λ r. absurd r) (λ x. absurd (unknown_common x)) (λ wraps. inr (record { n = n; normal = refl; common = refl; wraps = wraps }))

closed_ruled : (o : LinkOptions) (n : NormalModule) (kind : ExportsKind) (row : MarkRow) → row.kind ≡ kind → Ruled o (Normal n) (after_importer_of o n kind (read_row row)).kind → row_wrapped (after_importer_of o n kind (read_row row)) ≡ true
closed_ruled o n Unknown row e u = absurd (unknown_common (sym e ∙ u.common))
closed_ruled o n Esm row e u = absurd (esm_common (sym e ∙ u.common))
closed_ruled o n CommonJs row e u =
    let same : n ≡ u.n = (let f = u.normal in cc) in
    wrapped_of CommonJs (importer_rule o n || row_wrapped row) ∙ or_left (importer_rule o n) (row_wrapped row) (ap (importer_rule o) same ∙ u.wraps)

module _ (o : LinkOptions) (d : Module) (n : NormalModule) (is : d ≡ Normal n) (row : MarkRow) where
  pub turned_by_importer : Turned o d Unknown ⊥ row (after_importer o n (read_row row))
  turned_by_importer = subst (λ (x : Module). Turned o x Unknown ⊥ row (after_importer o n (read_row row))) (sym is) (closing o n row.kind row refl)

  pub importer_ruled : Ruled o d (after_importer o n (read_row row)).kind → row_wrapped (after_importer o n (read_row row)) ≡ true
  importer_ruled = subst (λ (x : Module). Ruled o x (after_importer o n (read_row row)).kind → row_wrapped (after_importer o n (read_row row)) ≡ true) (sym is) (closed_ruled o n row.kind row refl)
