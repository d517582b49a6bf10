use Rattle.std.proofs.Common.{rules, ◌≡◌, ap, ◌∙◌}
use Rattle.marks.specs.declared.rows.MarkRow.{MarkRow}
use Rattle.marks.specs.Rules.{is_wrapped}
use Rattle.marks.specs.Rows.{kind_in, wrapped_in}
use Rattle.ways.specs.Targets.{flag}
use Rattle.wrapping.specs.Wraps.{is_common}
use Rattle.wrapping.proofs.Tests.{start_test}
use Rattle.wrapping.proofs.wraps.starts.Goals as goal

pub returns : goal.returns
returns g c =
    let rows = c.args.rows.now in
    let pointed = c.args.pointed.now in
    let m = c.args.m in
    let common : c.eq-common.result ≡ is_common (kind_in rows m) = search rules in
    start_test c.may_wrap.result (flag pointed m) c.eq-common.result c.is_wrapped.result (is_common (kind_in rows m)) (wrapped_in rows m)
    common (c.is_wrapped.ensures ∙ ap (λ (r : MarkRow). is_wrapped r.wrap) c.read-mark.ensures) c.may_wrap.ensures
