use Rattle.std.proofs.Common.{ℕ, ◌+◌, ◌<◌, List, length, set, sym, ◌∙◌, subst, arith, rules}
use Rattle.source.specs.Meaning.{count_of, records_in}
use Rattle.marks.specs.declared.rows.AwaitRow.{AwaitRow}
use Rattle.ways.specs.Targets.{flag}
use Rattle.tla.specs.Once.{Known}
use Rattle.tla.proofs.Listed.{ModuleRows, module_over, module_push, written_more}
use Rattle.tla.proofs.Looked.{record_below, looked_none, looked_gives, looked_below, looked_waits}
use Rattle.tla.proofs.Places.{place_room}
use Rattle.tla.proofs.await_rows.write_rows.Goals as goal
use Rattle.tla.proofs.await_rows.write_rows.Goals.{then-gives_row, else-gives_row}

pub loop-k-preserved-in_default : goal.loop-k-preserved-in_default
loop-k-preserved-in_default g c =
    let w = g.S.ModuleSource.meaning c.args.imports.now.source.now in
    let waits = flag c.args.facts.now in
    let m = c.loop-m.m in
    let k = c.loop-k.k in
    let over =
    module_over w waits m c.loop-m.list (omega (arith, c.module_count-m-end.ensures)) k c.loop-k.list c.loop-k.n (omega (arith, c.record_count-k-end.ensures)) c.loop-k.invariant.0
    (looked_none w waits m k c.look-kind.result c.look-kind.ensures c.in_default.is) in
    (over, c.loop-k.invariant.1)

pub gives_row-requires : goal.gives_row-requires
gives_row-requires g c =
    let w = g.S.ModuleSource.meaning c.args.imports.now.source.now in
    let lt = looked_below w (flag c.args.facts.now) c.loop-m.m c.loop-k.k c.look-kind.result c.look-kind.ensures (g.S.ModuleSource.proper c.args.imports.now.source.now) (omega (arith, c.record_count-k-end.ensures)) c.in-Some.t c.in-Some.is (g.met.S.Linkable.targets c.args.imports.now.source.now) in
    omega (arith, lt, c.requires.facts)

pub await_row-row-requires : goal.await_row-row-requires
await_row-row-requires g c =
    let w = g.S.ModuleSource.meaning c.args.imports.now.source.now in
    let waits = flag c.args.facts.now in
    let m = c.loop-m.m in
    let k = c.loop-k.k in
    let t = c.in-Some.t in
    let proper = g.S.ModuleSource.proper c.args.imports.now.source.now in
    let h : m < count_of w = omega (arith, c.module_count-m-end.ensures) in
    let i : k < records_in w m = omega (arith, c.record_count-k-end.ensures) in
    let below = looked_below w waits m k c.look-kind.result c.look-kind.ensures proper i t c.in-Some.is (g.met.S.Linkable.targets c.args.imports.now.source.now) in
    let waiting = looked_waits w waits m k c.look-kind.result c.look-kind.ensures proper i t c.in-Some.is (sym c.if-gives_row.ensures) in
    record {
      entered = omega (arith, c.requires.entered, c.loop-k.auto.entered, c.loop-m.auto.entered);
      known = c.loop-k.invariant.1;
      importer = omega (arith, h, g.met.S.Linkable.small c.args.imports.now.source.now);
      place = omega (arith, record_below w m k h i, c.requires.records);
      target = below;
      waits = (c.requires.waits t below).0 waiting.1;
    }

pub bounds-list-n : goal.bounds-list-n
bounds-list-n g c =
    let w = g.S.ModuleSource.meaning c.args.imports.now.source.now in
    let waits = flag c.args.facts.now in
    let m = c.loop-m.m in
    let k = c.loop-k.k in
    let yes = looked_gives w waits m k c.look-kind.result c.look-kind.ensures c.in-Some.t c.in-Some.is ∙ sym c.if-gives_row.ensures in
    let lt = place_room w waits m (omega (arith, c.module_count-m-end.ensures)) k (omega (arith, c.record_count-k-end.ensures)) yes in
    omega (arith, lt, c.loop-k.invariant.0.count, c.requires.room, c.loop-k.auto.list, c.loop-m.auto.list)

pub offset_bounds-list-n : goal.offset_bounds-list-n
offset_bounds-list-n g c = let h = bounds-list-n g c in search rules

pub overflow_add-n : goal.overflow_add-n
overflow_add-n g c = let h = bounds-list-n g c in search rules

pub loop-k-preserved : goal.loop-k-preserved
loop-k-preserved g c =
    let w = g.S.ModuleSource.meaning c.args.imports.now.source.now in
    let waits = flag c.args.facts.now in
    let m = c.loop-m.m in
    let k = c.loop-k.k in
    let n = c.loop-k.n in
    let t = c.in-Some.t in
    let x = c.look-kind.result in
    let looked = c.look-kind.ensures in
    let start = c.loop-m.list in
    let list = c.loop-k.list in
    let h : m < count_of w = omega (arith, c.module_count-m-end.ensures) in
    let i : k < records_in w m = omega (arith, c.record_count-k-end.ensures) in
    let gives = looked_gives w waits m k x looked t c.in-Some.is in
    elim c.if-gives_row.branch [
      | then-gives_row v ↦
          let yes = sym v.if-gives_row.ensures in
          let waiting = looked_waits w waits m k x looked (g.S.ModuleSource.proper c.args.imports.now.source.now) i t c.in-Some.is yes in
          let row = v.await_row-row.result in
          let lt = place_room w waits m h k i (gives ∙ yes) in
          let room : n < length list = omega (arith, lt, c.loop-k.invariant.0.count, c.requires.room, c.loop-k.auto.list, c.loop-m.auto.list) in (
            subst (λ (rows : List AwaitRow). ModuleRows w waits m (k + 1) start rows c.if-gives_row.n) (sym v.list-is)
                (subst (λ (z : ℕ). ModuleRows w waits m (k + 1) start (set list n row) z) (sym v.n-is)
                (module_push w waits m start h k list n i c.loop-k.invariant.0 t row waiting.0 waiting.1 v.await_row-row.ensures.row room)),
            subst (λ mem. Known w (g.M.Memory.known mem)) (sym v.memory-is) v.await_row-row.ensures.known,
          )
      | else-gives_row v ↦ (
        subst (λ (rows : List AwaitRow). ModuleRows w waits m (k + 1) start rows c.if-gives_row.n) (sym v.list-is)
            (subst (λ (z : ℕ). ModuleRows w waits m (k + 1) start list z) (sym v.n-is)
            (module_over w waits m start h k list n i c.loop-k.invariant.0 (gives ∙ sym v.if-gives_row.ensures))),
        subst (λ mem. Known w (g.M.Memory.known mem)) (sym v.memory-is) c.loop-k.invariant.1,
      )
    ]

pub loop-m-preserved : goal.loop-m-preserved
loop-m-preserved g c =
    let more =
    written_more (g.S.ModuleSource.meaning c.args.imports.now.source.now) (flag c.args.facts.now) c.loop-m.m c.loop-k.k c.args.list.now c.loop-m.list c.loop-k.list c.loop-m.n c.loop-k.n
    (omega (arith, c.module_count-m-end.ensures)) (omega (arith, c.record_count-k-end.ensures)) c.loop-m.invariant.0 c.loop-k.invariant.0 in
    (more, c.loop-k.invariant.1)
