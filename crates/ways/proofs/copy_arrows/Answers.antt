use Rattle.std.proofs.Common.{ℕ, ◌+◌, ◌<◌, List, length, set, sym, ap, ◌∙◌, subst, arith, rules}
use Rattle.std.proofs.lemmas.List.Sums.{sum_by_more, sum_by-take-le}
use Rattle.std.proofs.lemmas.Bool.{both_ways}
use Rattle.source.specs.Meaning.{count_of, records_in, past_modules}
use Rattle.marks.proofs.Records.{none_some, some_is, external_normal, look_points, look_target}
use Rattle.spread.specs.declared.arrow.Arrow.{Arrow}
use Rattle.ways.specs.Ways.{drawn, CopiedUpTo}
use Rattle.ways.proofs.Copies.{long, room, Within, copied_enter, copied_skip, copied_leave, copied_all, copied_over, copied_push}
use Rattle.ways.proofs.copy_arrows.Goals as goal
use Rattle.ways.proofs.copy_arrows.Goals.{then-follows, else-follows}

pub loop-m-preserved-in_default : goal.loop-m-preserved-in_default
loop-m-preserved-in_default g c =
    let w = g.S.ModuleSource.meaning c.args.source.now in
    let h : c.loop-m.m < count_of w = omega (arith, c.module_count-m-end.ensures) in (
      omega (arith, c.loop-m.invariant.0, sum_by_more long w.modules c.loop-m.m past_modules h),
      copied_skip c.args.way w c.loop-m.m c.loop-m.arrows c.loop-m.n (λ n. external_normal n.0 (c.in_default.ensures ∙ n.1)) c.loop-m.invariant.1,
    )

pub loop-k-init : goal.loop-k-init
loop-k-init g c = (
  omega (arith, c.loop-m.invariant.0),
  copied_enter c.args.way (g.S.ModuleSource.meaning c.args.source.now) c.loop-m.m c.loop-m.arrows c.loop-m.n c.loop-m.invariant.1,
)

pub loop-k-preserved-in_default-target : goal.loop-k-preserved-in_default-target
loop-k-preserved-in_default-target g c =
    let w = g.S.ModuleSource.meaning c.args.source.now in (
      omega (arith, c.loop-k.invariant.0),
      copied_over c.args.way w c.loop-m.m c.loop-k.k c.loop-k.arrows c.loop-k.n
          (λ t kind l. none_some t (sym c.in_default-target.is ∙ look_target w c.loop-m.m c.loop-k.k c.look-kind.result c.look-kind.ensures t kind l.points))
          c.loop-k.invariant.1,
    )

one_more : (g : _) (c : goal.After-draw g) → c.loop-k.n < length c.loop-k.arrows
one_more g c =
    let w = g.S.ModuleSource.meaning c.args.source.now in
    let h : c.loop-m.m < count_of w = omega (arith, c.module_count-m-end.ensures) in
    let i : c.loop-k.k < records_in w c.loop-m.m = omega (arith, c.record_count-k-end.ensures) in
    room w c.loop-m.m c.loop-k.k c.loop-k.n (length c.loop-k.arrows) h i (omega (arith, c.requires, c.loop-k.auto.arrows, c.loop-m.auto.arrows)) c.loop-k.invariant.0

pub offset_bounds-arrows-n : goal.offset_bounds-arrows-n
offset_bounds-arrows-n g c = let h = one_more g c in search rules

pub bounds-arrows-n : goal.bounds-arrows-n
bounds-arrows-n g c = one_more g c

pub overflow_add-n : goal.overflow_add-n
overflow_add-n g c = let h = one_more g c in search rules

pub loop-k-preserved : goal.loop-k-preserved
loop-k-preserved g c =
    let w = g.S.ModuleSource.meaning c.args.source.now in
    let way = c.args.way in
    let m = c.loop-m.m in
    let k = c.loop-k.k in
    let h : m < count_of w = omega (arith, c.module_count-m-end.ensures) in
    let i : k < records_in w m = omega (arith, c.record_count-k-end.ensures) in
    let room-here = room w m k c.loop-k.n (length c.loop-k.arrows) h i (omega (arith, c.requires, c.loop-k.auto.arrows, c.loop-m.auto.arrows)) c.loop-k.invariant.0 in
    let x = c.look-kind.result in
    let looked = c.look-kind.ensures in
    let points = look_points w m k x looked c.in-Some.t (c.in-Normal.field-0, sym c.in-Normal.ensures) c.in-Some.is in
    elim c.if-follows.branch [
      | then-follows v ↦ (
        omega (arith, c.loop-k.invariant.0, v.n-is),
        subst (λ (rows : List Arrow). CopiedUpTo (Within m (k + 1)) way w rows c.if-follows.n) (sym (v.arrows-is ∙ ap (λ (a : Arrow). set c.loop-k.arrows c.loop-k.n a) v.draw.ensures))
            (subst (λ (n : ℕ). CopiedUpTo (Within m (k + 1)) way w (set c.loop-k.arrows c.loop-k.n (drawn way m c.in-Some.t)) n) (sym v.n-is)
            (copied_push way w m k c.in-Some.t x.0 (record { points = points; on = sym v.if-follows.ensures })
            (λ y other l. some_is x.1 y c.in-Some.t (look_target w m k x looked y other l.points) c.in-Some.is)
            c.loop-k.arrows c.loop-k.n room-here c.loop-k.invariant.1)),
      )
      | else-follows v ↦ (
        omega (arith, c.loop-k.invariant.0, v.n-is),
        subst (λ (rows : List Arrow). CopiedUpTo (Within m (k + 1)) way w rows c.if-follows.n) (sym v.arrows-is)
            (subst (λ (n : ℕ). CopiedUpTo (Within m (k + 1)) way w c.loop-k.arrows n) (sym v.n-is)
            (copied_over way w m k c.loop-k.arrows c.loop-k.n (λ t kind l. both_ways _ (sym v.if-follows.ensures) l.on) c.loop-k.invariant.1)),
      )
    ]

pub loop-m-preserved : goal.loop-m-preserved
loop-m-preserved g c =
    let w = g.S.ModuleSource.meaning c.args.source.now in
    let h : c.loop-m.m < count_of w = omega (arith, c.module_count-m-end.ensures) in (
      omega (arith, c.loop-k.invariant.0, c.record_count-k-end.ensures, sum_by_more long w.modules c.loop-m.m past_modules h),
      copied_leave c.args.way w c.loop-m.m c.loop-k.k c.loop-k.arrows c.loop-k.n (omega (arith, c.record_count-k-end.ensures)) c.loop-k.invariant.1,
    )

pub returns : goal.returns
returns g c =
    let w = g.S.ModuleSource.meaning c.args.source.now in
    record {
      fits = omega (arith, c.loop-m.invariant.0, sum_by-take-le long w.modules c.loop-m.m, c.requires, c.loop-m.auto.arrows);
      all = copied_all c.args.way w c.loop-m.m c.loop-m.arrows c.loop-m.n (omega (arith, c.module_count-m-end.ensures)) c.loop-m.invariant.1;
    }
