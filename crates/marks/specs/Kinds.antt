-- What the records, in scan order, make of a module's kind.
--
--   or_else         the first kind that is known
--   makes           what a record of this kind makes of a normal module of no kind; no kind where it does not count
--   made_of         what the first counting record of a list of modules makes of module t
--   first_made      what the first counting record in scan order makes of module t
--   ripe            what becomes of a module of this kind
--   scanned_kind    the kind that was scanned
--   settled_kind    the kind that the module ends with
--   importer_rule   a CommonJS importer is wrapped: it is no entry, or the format asks for it
use Rattle.std.specs.Prelude.{ℕ, Bool, true, false, cond, not, ◌||◌, List, [], ◌∷◌, Some, None, Option, ◌==◌}
use Rattle.source.specs.declared.ImportKind.{ImportKind}
use Rattle.source.specs.declared.ImportKind.TheVariants.{Import, Require, DynamicImport, AtImport, UrlImport, NewUrl, HotAccept}
use Rattle.source.specs.declared.ImportRecord.{ImportRecord}
use Rattle.source.specs.declared.ExportsKind.{ExportsKind}
use Rattle.source.specs.declared.ExportsKind.TheVariants.{None as Unknown, Esm, CommonJs}
use Rattle.source.specs.declared.Module.{Module}
use Rattle.source.specs.declared.Module.TheVariants.{External, Normal}
use Rattle.source.specs.declared.NormalModule.{NormalModule}
use Rattle.source.specs.Meaning.{Meaning, Scanned, module_at}
use Rattle.marks.specs.declared.options.LinkOptions.{LinkOptions}
use Rattle.marks.specs.declared.options.OutputFormat.{OutputFormat}
use Rattle.marks.specs.declared.options.OutputFormat.TheVariants.{Esm as FormatEsm, Cjs, Iife, Umd}

-- the first that is known
abbrev pub or_else : ExportsKind → ExportsKind → ExportsKind
or_else Unknown other = other
or_else Esm other = Esm
or_else CommonJs other = CommonJs

-- what a record of this kind makes of a module of unknown kind; unknown where it does not count
abbrev pub makes : LinkOptions → NormalModule → ImportKind → ExportsKind
makes o n Import = cond n.lazy_export Unknown Esm
makes o n Require = CommonJs
makes o n DynamicImport = cond o.splitting_off CommonJs Unknown
makes o n AtImport = Unknown
makes o n UrlImport = Unknown
makes o n NewUrl = Unknown
makes o n HotAccept = Unknown

abbrev pub is_target : Option ℕ → ℕ → Bool
is_target None t = false
is_target (Some u) t = u == t

abbrev pub made_by : LinkOptions → NormalModule → ℕ → ImportRecord → ExportsKind
made_by o n t r = cond (is_target r.target t) (makes o n r.kind) Unknown

-- what the first of these records that counts makes of the module t
abbrev pub made_in : LinkOptions → NormalModule → ℕ → List ImportRecord → ExportsKind
made_in o n t [] = Unknown
made_in o n t (r ∷ rs) = or_else (made_by o n t r) (made_in o n t rs)

abbrev pub records_scanned : Module → List ImportRecord → List ImportRecord
records_scanned External rs = []
records_scanned (Normal n) rs = rs

abbrev pub made_of : LinkOptions → NormalModule → ℕ → List Scanned → ExportsKind
made_of o n t [] = Unknown
made_of o n t (s ∷ ss) = or_else (made_in o n t (records_scanned s.described s.records)) (made_of o n t ss)

abbrev pub made_normal : Meaning → LinkOptions → ℕ → Module → ExportsKind
made_normal w o t External = Unknown
made_normal w o t (Normal n) = made_of o n t w.modules

-- what the first counting record in scan order makes of the normal module t
abbrev pub first_made : Meaning → LinkOptions → ℕ → ExportsKind
first_made w o t = made_normal w o t (module_at w t)

-- what becomes of a module of this kind
abbrev pub ripe : Meaning → LinkOptions → ℕ → ExportsKind → ExportsKind
ripe w o m kind = or_else kind (first_made w o m)

abbrev pub kind_scanned : Module → ExportsKind
kind_scanned External = Unknown
kind_scanned (Normal n) = n.scanned

abbrev pub scanned_kind : Meaning → ℕ → ExportsKind
scanned_kind w m = kind_scanned (module_at w m)

abbrev pub settled_kind : Meaning → LinkOptions → ℕ → ExportsKind
settled_kind w o m = ripe w o m (scanned_kind w m)

-- the importer rule
abbrev pub format_wraps : OutputFormat → NormalModule → Bool
format_wraps FormatEsm n = true
format_wraps Cjs n = false
format_wraps Iife n = n.module_or_exports
format_wraps Umd n = n.module_or_exports

abbrev pub importer_rule : LinkOptions → NormalModule → Bool
importer_rule o n = not n.entry || format_wraps o.format n
