use Rattle.std.proofs.Common.{vec_items}
use Rattle.tuchovai_c.proofs.Growing.{Put}
use Rattle.tuchovai_c.proofs.table.put_rows.Given as goal

abbrev pub invariant-loop-row : goal.invariant-loop-row
invariant-loop-row g l = Put g.R.TableRow.row_bytes l.rows l.row-index (vec_items l.initial.bytes) (vec_items l.bytes)
