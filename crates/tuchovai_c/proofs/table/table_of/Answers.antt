use Rattle.std.proofs.Common.{is_ok, ap}
use Rattle.std.proofs.ResultArms.{chosen}
use Rattle.tuchovai_c.proofs.Growing.{four_parts}
use Rattle.tuchovai_c.proofs.table.table_of.Goals as goal

pub returns : goal.returns
returns c =
    four_parts _ _ _ _ _ _ _ _ _ c.in_ok-bytes.ensures.items
    (chosen _ _ _ _ c.extend_from_slice.ensures.items (ap is_ok c.in_ok-extend_from_slice.was))
    c.bytes_of_head-head.ensures
    c.in_ok-put_rows.ensures
    c.in_ok-put_rows-2.ensures
    c.in_ok-put_rows-3.ensures
