-- The rule that marks keep, and how rows read.
--
--   agrees       a wrapper fits a kind: CommonJS only where the kind is CommonJS, ESM only where it is not
--   is_wrapped   it is a wrapper at all
--   wrap_of      how a module of a kind is wrapped, if it is
--   read_wrap    how a row's wrapper reads: none where it breaks the rule
--   cleared      the row of a kind with nothing else settled
--   read_row     how a row reads
--   marked_row   the row with a kind, wrapped by it or not
--   with_required, with_dynamic, with_awaiting, with_entries   the row with one field replaced
use Rattle.std.specs.Prelude.{ℕ, Bool, true, false, cond}
use Rattle.source.specs.declared.ExportsKind.{ExportsKind}
use Rattle.source.specs.declared.ExportsKind.TheVariants.{None as Unknown, Esm, CommonJs}
use Rattle.marks.specs.declared.rows.MarkRow.{MarkRow}
use Rattle.marks.specs.declared.rows.WrapKind.{WrapKind}
use Rattle.marks.specs.declared.rows.WrapKind.TheVariants.{None as Unwrapped, Cjs as AsCjs, Esm as AsEsm}

abbrev pub agrees : ExportsKind → WrapKind → Bool
agrees kind Unwrapped = true
agrees Unknown AsCjs = false
agrees Esm AsCjs = false
agrees CommonJs AsCjs = true
agrees Unknown AsEsm = true
agrees Esm AsEsm = true
agrees CommonJs AsEsm = false

abbrev pub is_wrapped : WrapKind → Bool
is_wrapped Unwrapped = false
is_wrapped AsCjs = true
is_wrapped AsEsm = true

abbrev pub wrap_of : ExportsKind → WrapKind
wrap_of Unknown = AsEsm
wrap_of Esm = AsEsm
wrap_of CommonJs = AsCjs

abbrev pub read_wrap : ExportsKind → WrapKind → WrapKind
read_wrap kind wrap = cond (agrees kind wrap) wrap Unwrapped

abbrev pub cleared : ExportsKind → MarkRow
cleared kind = record { kind = kind; wrap = Unwrapped; required = false; dynamic = false; awaiting = false; entries = 0 }

abbrev pub read_row : MarkRow → MarkRow
read_row r = record { kind = r.kind; wrap = read_wrap r.kind r.wrap; required = r.required; dynamic = r.dynamic; awaiting = r.awaiting; entries = r.entries }

abbrev pub marked_row : MarkRow → ExportsKind → Bool → MarkRow
marked_row r kind wrapped = record { kind = kind; wrap = cond wrapped (wrap_of kind) Unwrapped; required = r.required; dynamic = r.dynamic; awaiting = r.awaiting; entries = r.entries }

abbrev pub with_required : MarkRow → Bool → MarkRow
with_required r b = record { kind = r.kind; wrap = r.wrap; required = b; dynamic = r.dynamic; awaiting = r.awaiting; entries = r.entries }

abbrev pub with_dynamic : MarkRow → Bool → MarkRow
with_dynamic r b = record { kind = r.kind; wrap = r.wrap; required = r.required; dynamic = b; awaiting = r.awaiting; entries = r.entries }

abbrev pub with_awaiting : MarkRow → Bool → MarkRow
with_awaiting r b = record { kind = r.kind; wrap = r.wrap; required = r.required; dynamic = r.dynamic; awaiting = b; entries = r.entries }

abbrev pub with_entries : MarkRow → ℕ → MarkRow
with_entries r e = record { kind = r.kind; wrap = r.wrap; required = r.required; dynamic = r.dynamic; awaiting = r.awaiting; entries = e }
