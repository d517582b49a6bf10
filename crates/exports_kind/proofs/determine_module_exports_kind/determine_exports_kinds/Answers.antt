use Rattle.std.proofs.Common.{◌<◌, length, sym, ap, ◌∙◌, arith}
use Rattle.marks.proofs.Records.{normal_below}
use Rattle.exports_kind.specs.Steps.{after_record, after_importer}
use Rattle.exports_kind.proofs.Sweeps.{outer_skip, outer_more, inner_unresolved, inner_external, inner_normal, whole}
use Rattle.exports_kind.proofs.determine_module_exports_kind.determine_exports_kinds.Goals as goal
use Rattle.exports_kind.proofs.determine_module_exports_kind.determine_exports_kinds.Goals.{In-Normal-module}

pub loop-m-preserved-in_default : goal.loop-m-preserved-in_default
loop-m-preserved-in_default g c =
    outer_skip (g.S.ModuleSource.meaning c.args.source.now) c.args.options c.loop-m.m c.read_rows.new.rows c.loop-m.rows (omega (arith, c.module_count-m-end.ensures)) (sym c.in_default.ensures) c.loop-m.invariant

pub loop-k-preserved-in_default-target : goal.loop-k-preserved-in_default-target
loop-k-preserved-in_default-target g c =
    inner_unresolved (g.S.ModuleSource.meaning c.args.source.now) c.args.options c.loop-m.m c.loop-k.k c.loop-m.rows c.loop-k.rows (omega (arith, c.record_count-k-end.ensures)) c.loop-k.invariant c.look-kind.result c.look-kind.ensures c.in_default-target.is

pub loop-k-preserved-in_default-module : goal.loop-k-preserved-in_default-module
loop-k-preserved-in_default-module g c =
    inner_external (g.S.ModuleSource.meaning c.args.source.now) c.args.options c.loop-m.m c.loop-k.k c.loop-m.rows c.loop-k.rows (omega (arith, c.record_count-k-end.ensures)) c.loop-k.invariant c.look-kind.result c.look-kind.ensures c.in-Some.t c.in-Some.is (sym c.in_default-module.ensures)

-- a normal target is a module, and so has a row
in_rows : (g : _) (c : In-Normal-module g) → c.in-Some.t < length c.loop-k.rows
in_rows g c =
    let below = normal_below (g.S.ModuleSource.meaning c.args.source.now) c.in-Some.t (c.in-Normal-module.importee, sym c.in-Normal-module.ensures) in
    omega (arith, below, c.requires, c.read_rows.auto.rows, c.loop-m.auto.rows, c.loop-k.auto.rows)

pub slice_copy_out-read : goal.slice_copy_out-read
slice_copy_out-read g c = in_rows g c

pub bounds-rows-t : goal.bounds-rows-t
bounds-rows-t g c = in_rows g (goal.at.bounds-rows-t g c).In-Normal-module

pub loop-k-preserved : goal.loop-k-preserved
loop-k-preserved g c =
    inner_normal (g.S.ModuleSource.meaning c.args.source.now) c.args.options c.loop-m.m c.loop-k.k c.loop-m.rows c.loop-k.rows (omega (arith, c.record_count-k-end.ensures)) c.loop-k.invariant c.look-kind.result c.look-kind.ensures c.in-Some.t c.in-Some.is
    c.in-Normal-module.importee
    c.row.result
    (sym c.in-Normal-module.ensures)
    (c.in-Normal.importer, sym c.in-Normal.ensures)
    (in_rows g (goal.at.loop-k-preserved g c).In-Normal-module)
    (c.row.ensures ∙ c.mark_importee-mark.ensures ∙ ap (after_record c.args.options c.in-Normal-module.importee c.look-kind.result.0) c.read.ensures)

pub loop-m-preserved : goal.loop-m-preserved
loop-m-preserved g c =
    outer_more (g.S.ModuleSource.meaning c.args.source.now) c.args.options c.loop-m.m c.loop-k.k c.in-Normal.importer c.read_rows.new.rows c.loop-m.rows c.loop-k.rows c.row-in-loop-m.result
    (omega (arith, c.module_count-m-end.ensures))
    (omega (arith, c.module_count-m-end.ensures, c.requires, c.read_rows.auto.rows, c.loop-m.auto.rows, c.loop-k.auto.rows))
    (sym c.in-Normal.ensures)
    (omega (arith, c.record_count-k-end.ensures))
    (c.row-in-loop-m.ensures ∙ c.mark_importer-mark.ensures ∙ ap (after_importer c.args.options c.in-Normal.importer) c.read-in-loop-m.ensures)
    c.loop-m.invariant
    c.loop-k.invariant

pub returns : goal.returns
returns g c =
    whole (g.S.ModuleSource.meaning c.args.source.now) c.args.options c.loop-m.m c.args.rows.now c.read_rows.new.rows c.loop-m.rows (omega (arith, c.module_count-m-end.ensures)) c.loop-m.auto.rows c.read_rows.ensures c.loop-m.invariant
