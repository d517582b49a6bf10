use Rattle.std.proofs.Common.{rules}
use Rattle.interop.specs.declared.rows.ImportRow.{ImportRow}
use Rattle.interop.proofs.external_import_interop.Question.check_imports.Goals as goal

pub returns : goal.returns
returns g c = c.check_each.ensures (λ (row : ImportRow). row.importer) (λ row m is. search rules)
