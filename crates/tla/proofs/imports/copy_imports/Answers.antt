use Rattle.std.proofs.Common.{ℕ, ◌+◌, ◌<◌, ◌≤◌, List, length, set, sym, refl, ap, ◌∙◌, subst, arith, rules}
use Rattle.source.specs.Meaning.{count_of, records_in, record_at, record_total}
use Rattle.marks.proofs.Records.{kind_looked, target_looked}
use Rattle.spread.specs.declared.arrow.Arrow.{Arrow}
use Rattle.ways.specs.Ways.{is_import}
use Rattle.tla.proofs.Copies.{Copied, so_far, so_far_all, led_none, led_other, led_one, copied_over, copied_room, copied_push}
use Rattle.tla.proofs.Ended.{ended_more, laid_by_ends}
use Rattle.tla.proofs.imports.copy_imports.Goals as goal
use Rattle.tla.proofs.imports.copy_imports.Goals.{then-is_import, else-is_import}

pub loop-k-preserved-in_default : goal.loop-k-preserved-in_default
loop-k-preserved-in_default g c =
    let w = g.S.ModuleSource.meaning c.args.source.now in
    let m = c.loop-m.m in
    let k = c.loop-k.k in
    copied_over w m k c.loop-k.arrows c.loop-k.n (omega (arith, c.module_count-m-end.ensures)) (omega (arith, c.record_count-k-end.ensures)) c.loop-k.invariant
    (led_none (is_import (record_at w m k).kind) (record_at w m k).target (sym (target_looked w m k c.look-kind.result c.look-kind.ensures) ∙ c.in_default.is))

pub bounds-arrows-n : goal.bounds-arrows-n
bounds-arrows-n g c =
    let w = g.S.ModuleSource.meaning c.args.source.now in
    let m = c.loop-m.m in
    let k = c.loop-k.k in
    let x = c.look-kind.result in
    let looked = c.look-kind.ensures in
    copied_room w m k c.loop-k.arrows c.loop-k.n (omega (arith, c.module_count-m-end.ensures)) (omega (arith, c.record_count-k-end.ensures)) c.loop-k.invariant c.in-Some.t
    (led_one (is_import (record_at w m k).kind) (record_at w m k).target c.in-Some.t (ap is_import (sym (kind_looked w m k x looked)) ∙ sym c.if-is_import.ensures) (sym (target_looked w m k x looked) ∙ c.in-Some.is))
    (omega (arith, c.requires.room, c.loop-k.auto.arrows, c.loop-m.auto.arrows))

pub offset_bounds-arrows-n : goal.offset_bounds-arrows-n
offset_bounds-arrows-n g c = let h = bounds-arrows-n g c in search rules

pub overflow_add-n : goal.overflow_add-n
overflow_add-n g c = let h = bounds-arrows-n g c in search rules

pub loop-k-preserved : goal.loop-k-preserved
loop-k-preserved g c =
    let w = g.S.ModuleSource.meaning c.args.source.now in
    let m = c.loop-m.m in
    let k = c.loop-k.k in
    let n = c.loop-k.n in
    let t = c.in-Some.t in
    let x = c.look-kind.result in
    let looked = c.look-kind.ensures in
    let h : m < count_of w = omega (arith, c.module_count-m-end.ensures) in
    let i : k < records_in w m = omega (arith, c.record_count-k-end.ensures) in
    let room : record_total w ≤ length c.loop-k.arrows = omega (arith, c.requires.room, c.loop-k.auto.arrows, c.loop-m.auto.arrows) in
    let kind = ap is_import (sym (kind_looked w m k x looked)) in
    elim c.if-is_import.branch [
      | then-is_import v ↦
          let one = led_one (is_import (record_at w m k).kind) (record_at w m k).target t (kind ∙ sym v.if-is_import.ensures) (sym (target_looked w m k x looked) ∙ c.in-Some.is) in
          let lt = copied_room w m k c.loop-k.arrows n h i c.loop-k.invariant t one room in
          subst (λ (rows : List Arrow). Copied (so_far w m (k + 1)) rows c.if-is_import.n) (sym v.arrows-is)
          (subst (λ (z : ℕ). Copied (so_far w m (k + 1)) (set c.loop-k.arrows n (record { from = m; to = t })) z) (sym v.n-is)
          (copied_push w m k c.loop-k.arrows n h i c.loop-k.invariant t one (record { from = m; to = t }) refl lt))
      | else-is_import v ↦
          subst (λ (rows : List Arrow). Copied (so_far w m (k + 1)) rows c.if-is_import.n) (sym v.arrows-is)
          (subst (λ (z : ℕ). Copied (so_far w m (k + 1)) c.loop-k.arrows z) (sym v.n-is)
          (copied_over w m k c.loop-k.arrows n h i c.loop-k.invariant (led_other (is_import (record_at w m k).kind) (record_at w m k).target (kind ∙ sym v.if-is_import.ensures))))
    ]

pub loop-m-preserved : goal.loop-m-preserved
loop-m-preserved g c =
    let w = g.S.ModuleSource.meaning c.args.source.now in
    let m = c.loop-m.m in
    let h : m < count_of w = omega (arith, c.module_count-m-end.ensures) in
    let here = subst (λ (ts : List ℕ). Copied ts c.loop-k.arrows c.loop-k.n) (so_far_all w m c.loop-k.k h (omega (arith, c.record_count-k-end.ensures))) c.loop-k.invariant in
    (here, ended_more w c.loop-m.ends m c.loop-k.n (omega (arith, c.requires.ends, c.loop-m.auto.ends)) here.count c.loop-m.invariant.1)

pub returns : goal.returns
returns g c =
    laid_by_ends (g.S.ModuleSource.meaning c.args.source.now) c.loop-m.ends c.loop-m.arrows c.loop-m.m c.loop-m.n
    (omega (arith, c.module_count-m-end.ensures, c.loop-m.auto.m-end)) (omega (arith, c.requires.ends, c.loop-m.auto.ends))
    (omega (arith, c.requires.room, c.loop-m.auto.arrows)) c.loop-m.invariant.1 c.loop-m.invariant.0
