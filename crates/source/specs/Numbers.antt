-- The numbers under which kinds are known outside, as in a card's fields.
--
--   exports_number   of an exports kind
--   import_number    of an import kind
--   ExportsNumbered, ImportNumbered   the kind that a number stands for, or that it stands for none
--   module_limit, record_limit   the most modules, and the most records over all modules
use Rattle.std.specs.Prelude.{◌≡◌, ℕ, ◌<◌, Result, MatchResult}
use Rattle.source.specs.declared.ExportsKind.{ExportsKind}
use Rattle.source.specs.declared.ExportsKind.TheVariants.{None, Esm, CommonJs}
use Rattle.source.specs.declared.ImportKind.{ImportKind}
use Rattle.source.specs.declared.ImportKind.TheVariants.{Import, Require, DynamicImport, AtImport, UrlImport, NewUrl, HotAccept}
use Rattle.source.specs.declared.UnknownNumber.{UnknownNumber}

abbrev pub exports_number : ExportsKind → ℕ
exports_number None = 0
exports_number Esm = 1
exports_number CommonJs = 2

abbrev pub import_number : ImportKind → ℕ
import_number Import = 0
import_number Require = 1
import_number DynamicImport = 2
import_number AtImport = 3
import_number UrlImport = 4
import_number NewUrl = 5
import_number HotAccept = 6

abbrev pub ExportsNumbered : ℕ → Result ExportsKind UnknownNumber → Type 0
ExportsNumbered number r = MatchResult r (λ kind. exports_number kind ≡ number) (λ e. (e.0 ≡ number) × (2 < number))

abbrev pub ImportNumbered : ℕ → Result ImportKind UnknownNumber → Type 0
ImportNumbered number r = MatchResult r (λ kind. import_number kind ≡ number) (λ e. (e.0 ≡ number) × (6 < number))

abbrev pub module_limit : ℕ
module_limit = 4096

abbrev pub record_limit : ℕ
record_limit = 32768
