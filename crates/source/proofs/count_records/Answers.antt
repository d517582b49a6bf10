use Rattle.std.proofs.Common.{◌+◌, ◌<◌, length, sum_by, ap, ◌∙◌, arith}
use Rattle.std.proofs.lemmas.List.{take_all}
use Rattle.std.proofs.lemmas.List.Sums.{sum_by_more, sum_by-take-le}
use Rattle.source.specs.Meaning.{Scanned, count_of, past_modules}
use Rattle.source.proofs.count_records.Goals as goal

pub returns-then-more-total : goal.returns-then-more-total
returns-then-more-total g c =
    let w = g.S.ModuleSource.meaning c.args.source.now in
    let m = c.loop-m.m in
    let lt : m < count_of w = omega (arith, c.module_count-m-end.ensures) in
    omega (arith, c.loop-m.invariant.0, c.record_count-more.ensures, sum_by_more (λ (s : Scanned). length s.records) w.modules m past_modules lt, sum_by-take-le (λ (s : Scanned). length s.records) w.modules (m + 1))

pub loop-m-preserved : goal.loop-m-preserved
loop-m-preserved g c =
    let w = g.S.ModuleSource.meaning c.args.source.now in
    let m = c.loop-m.m in
    let lt : m < count_of w = omega (arith, c.module_count-m-end.ensures) in (
      omega (arith, c.loop-m.invariant.0, c.record_count-more.ensures, sum_by_more (λ (s : Scanned). length s.records) w.modules m past_modules lt),
      omega (arith, c.loop-m.invariant.1),
    )

pub returns : goal.returns
returns g c =
    let w = g.S.ModuleSource.meaning c.args.source.now in (
      c.loop-m.invariant.0 ∙ ap (sum_by (λ (s : Scanned). length s.records)) (take_all c.loop-m.m w.modules (omega (arith, c.module_count-m-end.ensures))),
      c.loop-m.invariant.1,
    )
