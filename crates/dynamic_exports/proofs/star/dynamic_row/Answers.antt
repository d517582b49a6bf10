use Rattle.std.proofs.Common.{◌&&◌, ◌||◌, ap, ◌∙◌}
use Rattle.marks.specs.declared.rows.MarkRow.{MarkRow}
use Rattle.marks.specs.Rules.{with_dynamic}
use Rattle.ways.specs.Targets.{flag}
use Rattle.dynamic_exports.proofs.Whole.{starred_test}
use Rattle.dynamic_exports.proofs.star.dynamic_row.Goals as goal

pub returns : goal.returns
returns g c =
    let facts = c.args.facts.now in
    let starred = c.args.starred.now in
    let m = c.args.m in
    let b = flag facts m && (flag starred m || c.has_star.result) in
    record {
      dynamic = b;
      when = starred_test (flag facts m) (flag starred m) c.has_star.result c.has_star.ensures;
      row = c.row.ensures ∙ c.with_dynamic.ensures ∙ ap (λ (r : MarkRow). with_dynamic r (c.args.row.dynamic || b)) c.read.ensures;
    }
