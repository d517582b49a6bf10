-- What the pass does to one row, as it reads.
--
--   after_record     a record of this kind is resolved to the normal module n
--   after_importer   the records of the normal module n are done; after_importer_of by its kind
--   ReadUpTo         the rows below n are written as they read, and no others
use Rattle.std.specs.Prelude.{◌≡◌, ℕ, ◌||◌, List}
use Rattle.source.specs.declared.ImportKind.{ImportKind}
use Rattle.source.specs.declared.ExportsKind.{ExportsKind}
use Rattle.source.specs.declared.ExportsKind.TheVariants.{None as Unknown, Esm, CommonJs}
use Rattle.source.specs.declared.NormalModule.{NormalModule}
use Rattle.marks.specs.declared.options.LinkOptions.{LinkOptions}
use Rattle.marks.specs.declared.rows.MarkRow.{MarkRow}
use Rattle.marks.specs.Records.{acts_as_require}
use Rattle.marks.specs.Rules.{is_wrapped, read_row, marked_row}
use Rattle.marks.specs.Rows.{Written}
use Rattle.marks.specs.Kinds.{or_else, makes, importer_rule}

abbrev pub after_record : LinkOptions → NormalModule → ImportKind → MarkRow → MarkRow
after_record o n kind row = marked_row row (or_else row.kind (makes o n kind)) (acts_as_require o kind || is_wrapped row.wrap)

-- only a CommonJS importer is wrapped
abbrev pub after_importer_of : LinkOptions → NormalModule → ExportsKind → MarkRow → MarkRow
after_importer_of o n Unknown row = row
after_importer_of o n Esm row = row
after_importer_of o n CommonJs row = marked_row row CommonJs (importer_rule o n || is_wrapped row.wrap)

abbrev pub after_importer : LinkOptions → NormalModule → MarkRow → MarkRow
after_importer o n row = after_importer_of o n row.kind row

abbrev pub ReadUpTo : ℕ → List MarkRow → List MarkRow → Type 0
ReadUpTo n old new = Written n (λ m before after. after ≡ read_row before) old new
