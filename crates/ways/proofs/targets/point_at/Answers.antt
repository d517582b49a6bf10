use Rattle.std.proofs.Common.{◌≡◌, ℕ, ◌<◌, true, List, length, sym, ◌∙◌, subst, arith}
use Rattle.std.proofs.lemmas.Bool.{both_ways}
use Rattle.source.specs.Meaning.{record_at}
use Rattle.marks.specs.Rows.{Raised}
use Rattle.marks.proofs.Records.{none_some, some_is, external_normal, normal_below, points_in, look_points, look_target}
use Rattle.spread.specs.declared.yes_no.YesNo.{YesNo}
use Rattle.ways.specs.Targets.{flag, picked, Picked}
use Rattle.ways.proofs.Sweeps.{raised_same, raised_as, marked_step, marked_join, marked_skip, marked_all}
use Rattle.ways.proofs.Pointed.{raised_at}
use Rattle.ways.proofs.targets.point_at.Goals as goal
use Rattle.ways.proofs.targets.point_at.Goals.{then-picks, else-picks}

pub loop-m-preserved-in_default : goal.loop-m-preserved-in_default
loop-m-preserved-in_default g c =
    let w = g.S.ModuleSource.meaning c.args.source.now in
    marked_skip (Picked c.args.pick w (flag c.args.from.now)) c.loop-m.m (flag c.args.flags.now) (flag c.loop-m.flags)
    (λ j x p. external_normal p.points.importer.0 (c.in_default.ensures ∙ p.points.importer.1)) c.loop-m.invariant

pub loop-k-preserved-in_default-target : goal.loop-k-preserved-in_default-target
loop-k-preserved-in_default-target g c =
    let w = g.S.ModuleSource.meaning c.args.source.now in
    let P = Picked c.args.pick w (flag c.args.from.now) in
    marked_step P c.loop-m.m c.loop-k.k (λ x. ⊥) (flag c.loop-m.flags) (flag c.loop-k.flags) (flag c.loop-k.flags)
    (λ x b. absurd b)
    (λ x p. none_some x (sym c.in_default-target.is ∙ look_target w c.loop-m.m c.loop-k.k c.look-kind.result c.look-kind.ensures x p.kind p.points))
    c.loop-k.invariant (λ x. raised_same (λ b. b))

pub bounds-flags-t : goal.bounds-flags-t
bounds-flags-t g c =
    let w = g.S.ModuleSource.meaning c.args.source.now in
    let points = look_points w c.loop-m.m c.loop-k.k c.look-kind.result c.look-kind.ensures c.in-Some.t (c.in-Normal.field-0, sym c.in-Normal.ensures) c.in-Some.is in
    let lt = c.requires.targets c.loop-m.m c.in-Some.t (c.loop-k.k, c.look-kind.result.0, points) in
    omega (arith, lt, c.requires.flags, c.loop-k.auto.flags, c.loop-m.auto.flags)

pub loop-k-preserved : goal.loop-k-preserved
loop-k-preserved g c =
    let w = g.S.ModuleSource.meaning c.args.source.now in
    let P = Picked c.args.pick w (flag c.args.from.now) in
    let m = c.loop-m.m in
    let k = c.loop-k.k in
    let t = c.in-Some.t in
    let x = c.look-kind.result in
    let looked = c.look-kind.ensures in
    let points = look_points w m k x looked t (c.in-Normal.field-0, sym c.in-Normal.ensures) c.in-Some.is in
    let below : t < length c.loop-k.flags = omega (arith, c.requires.targets m t (k, x.0, points), c.requires.flags, c.loop-k.auto.flags, c.loop-m.auto.flags) in
    let same : (y : ℕ) → P m k y → y ≡ t = λ y p. some_is x.1 y t (look_target w m k x looked y p.kind p.points) c.in-Some.is in
    elim c.if-picks.branch [
      | then-picks v ↦
          marked_step P m k (λ y. y ≡ t) (flag c.loop-m.flags) (flag c.loop-k.flags) (flag c.if-picks.flags)
          (λ y e. subst (P m k) (sym e) (record { kind = x.0; points = points; by = sym v.if-picks.ensures }))
          same c.loop-k.invariant
          (λ y. subst (λ (flags : List YesNo). Raised (y ≡ t) (flag c.loop-k.flags y) (flag flags y)) (sym v.flags-is) (raised_at c.loop-k.flags t below y))
      | else-picks v ↦
          marked_step P m k (λ y. ⊥) (flag c.loop-m.flags) (flag c.loop-k.flags) (flag c.if-picks.flags)
          (λ y b. absurd b)
          (λ y p. both_ways _ (sym v.if-picks.ensures) (subst (λ (z : ℕ). picked c.args.pick w (flag c.args.from.now) m (record_at w m k) z ≡ true) (same y p) p.by))
          c.loop-k.invariant
          (λ y. subst (λ (flags : List YesNo). Raised ⊥ (flag c.loop-k.flags y) (flag flags y)) (sym v.flags-is) (raised_same (λ b. b)))
    ]

pub loop-m-preserved : goal.loop-m-preserved
loop-m-preserved g c =
    let w = g.S.ModuleSource.meaning c.args.source.now in
    marked_join (Picked c.args.pick w (flag c.args.from.now)) c.loop-m.m c.loop-k.k (flag c.args.flags.now) (flag c.loop-m.flags) (flag c.loop-k.flags)
    (λ j x ge p. let lt = points_in w c.loop-m.m j x p.kind p.points in omega (arith, c.record_count-k-end.ensures)) c.loop-m.invariant c.loop-k.invariant

pub returns : goal.returns
returns g c =
    let w = g.S.ModuleSource.meaning c.args.source.now in
    let P = Picked c.args.pick w (flag c.args.from.now) in
    let all = marked_all P c.loop-m.m (flag c.args.flags.now) (flag c.loop-m.flags) (λ a j x p. let lt = normal_below w a p.points.importer in omega (arith, c.module_count-m-end.ensures)) c.loop-m.invariant in
    record { long = c.loop-m.auto.flags; raised = λ t. raised_as (λ s. (s.0, s.1, s.3)) (λ s. (s.0, s.1, tt, s.2)) (all t) }
