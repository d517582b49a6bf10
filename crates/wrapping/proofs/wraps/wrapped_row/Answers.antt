use Rattle.std.proofs.Common.{Bool, ◌&&◌, ◌||◌, ap, ◌∙◌}
use Rattle.source.specs.declared.ExportsKind.{ExportsKind}
use Rattle.marks.specs.declared.rows.MarkRow.{MarkRow}
use Rattle.marks.specs.Rules.{read_row, marked_row, with_required, is_wrapped}
use Rattle.ways.specs.Targets.{flag}
use Rattle.wrapping.proofs.Tests.{both_test}
use Rattle.wrapping.proofs.wraps.wrapped_row.Goals as goal

pub returns : goal.returns
returns g c =
    let m = c.args.m in
    let facts = c.args.facts.now in
    let required = c.args.required.now in
    let row = c.args.row in
    let reached = c.may_wrap.result && flag facts m in
    let read = c.read-mark.ensures in
    let wrote : MarkRow → ExportsKind → Bool → Bool → MarkRow = λ r kind wrapped needed. with_required (marked_row r kind (wrapped || reached)) (needed || flag required m) in
    record {
      reached = reached;
      when = both_test c.may_wrap.result (flag facts m) c.may_wrap.ensures;
      row =
          c.row.ensures ∙ c.with_required.ensures
          ∙ ap (λ (r : MarkRow). with_required r (c.required.result || flag required m)) c.marked-marked.ensures
          ∙ ap (λ (r : MarkRow). wrote r c.kind.result c.is_wrapped.result c.required.result) read
          ∙ ap (λ (k : ExportsKind). wrote (read_row row) k c.is_wrapped.result c.required.result) (c.kind.ensures ∙ ap (λ (r : MarkRow). r.kind) read)
          ∙ ap (λ (b : Bool). wrote (read_row row) row.kind b c.required.result) (c.is_wrapped.ensures ∙ ap (λ (r : MarkRow). is_wrapped r.wrap) read)
          ∙ ap (λ (b : Bool). wrote (read_row row) row.kind (is_wrapped (read_row row).wrap) b) (c.required.ensures ∙ ap (λ (r : MarkRow). r.required) read);
    }
