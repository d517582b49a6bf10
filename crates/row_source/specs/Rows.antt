-- What rows stand for.
--
--   row_scanned    a module row with the record rows that are its own
--   rows_meaning   the runtime's number and the module rows
--   opened         the rows where the check accepts them, else no modules
use Rattle.std.specs.Prelude.{ℕ, cond, List, map, take, drop, is_ok}
use Rattle.source.specs.declared.ImportRecord.{ImportRecord}
use Rattle.source.specs.Meaning.{Meaning, Scanned, no_modules}
use Rattle.row_source.specs.declared.rows.ModuleRow.{ModuleRow}
use Rattle.row_source.specs.Checks.{rows_verdict}

abbrev pub row_scanned : List ImportRecord → ModuleRow → Scanned
row_scanned records row = record { described = row.described; records = take row.count (drop row.first records) }

abbrev pub rows_meaning : ℕ → List ModuleRow → List ImportRecord → Meaning
rows_meaning runtime modules records = record { runtime = runtime; modules = map (row_scanned records) modules }

abbrev pub opened : ℕ → List ModuleRow → List ImportRecord → Meaning
opened runtime modules records = cond (is_ok (rows_verdict modules records)) (rows_meaning runtime modules records) no_modules
