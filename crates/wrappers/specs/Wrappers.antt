-- Which wrappers a link ends with.
--
--   strict_wraps    strict order with manual groups wraps a normal CommonJS module
--   ends_wrapped    a wrapper is written for a module with this row
--   wrapper_row     the wrapper of a module of this kind
--   wrapper_rows    the wrappers of the first n modules, in module order: one for each that ends wrapped
--   StrictRow       how finish writes a row back
use Rattle.std.specs.Prelude.{◌≡◌, ℕ, zero, suc, Bool, true, false, cond, ◌&&◌, ◌||◌, List, [], ◌∷◌, ◌++◌}
use Rattle.source.specs.declared.ExportsKind.{ExportsKind}
use Rattle.source.specs.declared.ExportsKind.TheVariants.{None as Unknown, Esm, CommonJs}
use Rattle.source.specs.declared.Module.{Module}
use Rattle.source.specs.declared.Module.TheVariants.{External, Normal}
use Rattle.source.specs.Meaning.{Meaning, module_at}
use Rattle.marks.specs.declared.options.LinkOptions.{LinkOptions}
use Rattle.marks.specs.declared.rows.Helper.TheVariants as helper
use Rattle.marks.specs.declared.rows.MarkRow.{MarkRow}
use Rattle.marks.specs.declared.rows.WrapKind.TheVariants as wrap
use Rattle.marks.specs.declared.rows.WrapperRow.{WrapperRow}
use Rattle.marks.specs.Rules.{read_row, marked_row, is_wrapped}
use Rattle.marks.specs.Rows.{row_at}

abbrev pub strict_wraps : LinkOptions → Module → ExportsKind → Bool
strict_wraps o External kind = false
strict_wraps o (Normal n) Unknown = false
strict_wraps o (Normal n) Esm = false
strict_wraps o (Normal n) CommonJs = o.strict_order && o.manual_groups

abbrev pub ends_wrapped : LinkOptions → Module → MarkRow → Bool
ends_wrapped o External row = false
ends_wrapped o (Normal n) row = is_wrapped (read_row row).wrap || strict_wraps o (Normal n) row.kind

abbrev pub wrapper_row : LinkOptions → ℕ → ExportsKind → WrapperRow
wrapper_row o m Unknown = record { «module» = m; wrap = wrap.Esm; helper = cond o.profiler_names helper.Esm helper.EsmMin; eval = true }
wrapper_row o m Esm = record { «module» = m; wrap = wrap.Esm; helper = cond o.profiler_names helper.Esm helper.EsmMin; eval = true }
wrapper_row o m CommonJs = record { «module» = m; wrap = wrap.Cjs; helper = cond o.profiler_names helper.CommonJs helper.CommonJsMin; eval = false }

abbrev pub wrapper_at : Meaning → LinkOptions → List MarkRow → ℕ → List WrapperRow
wrapper_at w o rows m = cond (ends_wrapped o (module_at w m) (row_at rows m)) (wrapper_row o m (row_at rows m).kind ∷ []) []

abbrev pub wrapper_rows : Meaning → LinkOptions → List MarkRow → ℕ → List WrapperRow
wrapper_rows w o rows zero = []
wrapper_rows w o rows (suc n) = wrapper_rows w o rows n ++ wrapper_at w o rows n

abbrev pub StrictRow : Meaning → LinkOptions → ℕ → MarkRow → MarkRow → Type 0
StrictRow w o m old new = new ≡ marked_row (read_row old) old.kind (is_wrapped (read_row old).wrap || strict_wraps o (module_at w m) old.kind)
