use Rattle.std.proofs.Common.{◌≡◌, ◌<◌, sym, ◌∙◌, arith, rules}
use Rattle.source.specs.Meaning.{count_of, records_in}
use Rattle.ways.specs.Targets.{flag}
use Rattle.tla.specs.Rows.{row_total}
use Rattle.tla.proofs.Counted.{total_one}
use Rattle.tla.proofs.Looked.{looked_none, looked_gives, looked_below}
use Rattle.tla.proofs.Places.{before_all, place_all, place_yes, place_no, place_room, total_le}
use Rattle.tla.proofs.await_rows.count_await_rows.Goals as goal
use Rattle.tla.proofs.await_rows.count_await_rows.Goals.{then-gives_row, else-gives_row}

pub loop-k-preserved-in_default : goal.loop-k-preserved-in_default
loop-k-preserved-in_default g c =
    let w = g.S.ModuleSource.meaning c.args.source.now in
    let waits = flag c.args.facts.now in
    let m = c.loop-m.m in
    let k = c.loop-k.k in
    c.loop-k.invariant ∙ sym (place_no w waits m (omega (arith, c.module_count-m-end.ensures)) k (omega (arith, c.record_count-k-end.ensures)) (looked_none w waits m k c.look-kind.result c.look-kind.ensures c.in_default.is))

pub gives_row-requires : goal.gives_row-requires
gives_row-requires g c =
    let w = g.S.ModuleSource.meaning c.args.source.now in
    let lt = looked_below w (flag c.args.facts.now) c.loop-m.m c.loop-k.k c.look-kind.result c.look-kind.ensures (g.S.ModuleSource.proper c.args.source.now) (omega (arith, c.record_count-k-end.ensures)) c.in-Some.t c.in-Some.is c.requires.targets in
    omega (arith, lt, c.requires.facts)

pub overflow_add-n : goal.overflow_add-n
overflow_add-n g c =
    let w = g.S.ModuleSource.meaning c.args.source.now in
    let waits = flag c.args.facts.now in
    let m = c.loop-m.m in
    let k = c.loop-k.k in
    let yes = looked_gives w waits m k c.look-kind.result c.look-kind.ensures c.in-Some.t c.in-Some.is ∙ sym c.if-gives_row.ensures in
    let lt = place_room w waits m (omega (arith, c.module_count-m-end.ensures)) k (omega (arith, c.record_count-k-end.ensures)) yes in
    let h : c.loop-k.n < 32768 = omega (arith, lt, c.loop-k.invariant, total_le w waits, c.requires.records) in
    search rules

pub loop-k-preserved : goal.loop-k-preserved
loop-k-preserved g c =
    let w = g.S.ModuleSource.meaning c.args.source.now in
    let waits = flag c.args.facts.now in
    let m = c.loop-m.m in
    let k = c.loop-k.k in
    let h : m < count_of w = omega (arith, c.module_count-m-end.ensures) in
    let i : k < records_in w m = omega (arith, c.record_count-k-end.ensures) in
    let gives = looked_gives w waits m k c.look-kind.result c.look-kind.ensures c.in-Some.t c.in-Some.is in
    elim c.if-gives_row.branch [
      | then-gives_row v ↦ let more = place_yes w waits m h k i (gives ∙ sym v.if-gives_row.ensures) in omega (arith, v.n-is, c.loop-k.invariant, more)
      | else-gives_row v ↦ let same = place_no w waits m h k i (gives ∙ sym v.if-gives_row.ensures) in omega (arith, v.n-is, c.loop-k.invariant, same)
    ]

pub loop-m-preserved : goal.loop-m-preserved
loop-m-preserved g c =
    let w = g.S.ModuleSource.meaning c.args.source.now in
    c.loop-k.invariant ∙ place_all w (flag c.args.facts.now) c.loop-m.m (omega (arith, c.module_count-m-end.ensures)) c.loop-k.k (omega (arith, c.record_count-k-end.ensures))

pub returns : goal.returns
returns g c =
    let w = g.S.ModuleSource.meaning c.args.source.now in
    let waits = flag c.args.facts.now in
    let all : c.loop-m.n ≡ row_total w waits = c.loop-m.invariant ∙ before_all w waits c.loop-m.m (omega (arith, c.module_count-m-end.ensures, c.loop-m.auto.m-end)) in
    record {
      count = all;
      only = λ other o. o.2 ∙ total_one w (g.S.ModuleSource.proper c.args.source.now) c.requires.targets o.0 waits o.1 c.requires.waits ∙ sym all;
    }
