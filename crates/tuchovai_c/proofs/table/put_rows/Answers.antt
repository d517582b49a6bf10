use Rattle.std.proofs.Common.{◌++◌, map, is_ok, vec_items, ap, ◌∙◌, arith}
use Rattle.std.proofs.lemmas.List.{take_all}
use Rattle.std.proofs.ResultArms.{chosen}
use Rattle.std.specs.List.{concat}
use Rattle.tuchovai_c.proofs.Growing.{put_more}
use Rattle.tuchovai_c.proofs.table.put_rows.Goals as goal

pub to_bytes-requires : goal.to_bytes-requires
to_bytes-requires g c = omega (arith, c.requires)

pub shared_whole_as_slice-extend_from_slice : goal.shared_whole_as_slice-extend_from_slice
shared_whole_as_slice-extend_from_slice g c = omega (arith, c.requires)

pub loop-row-preserved : goal.loop-row-preserved
loop-row-preserved g c =
    put_more g.R.TableRow.row_bytes c.args.rows.now c.loop-row.row-index c.row-item.result (vec_items c.args.bytes.now) (vec_items c.loop-row.bytes) _ _ c.loop-row-test.true c.loop-row.invariant
    (c.to_bytes.ensures ∙ ap g.R.TableRow.row_bytes c.row-item.is)
    (chosen _ _ _ _ c.extend_from_slice.ensures.items (ap is_ok c.in_ok-extend_from_slice.was))

pub returns : goal.returns
returns g c = c.loop-row.invariant ∙ ap (λ x. vec_items c.args.bytes.now ++ concat (map g.R.TableRow.row_bytes x)) (take_all c.loop-row.row-index c.args.rows.now c.loop-row-test.false)
