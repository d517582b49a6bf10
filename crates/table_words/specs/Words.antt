-- The words of the text form.
--
--   exports_word, import_word, flag_word   the word for each exports kind, import kind and flag, as its bytes
--   yes_no                                 the word for true and for false
--   Named                                  what a text is read as: the case whose word it is, or none where it is no case's
use Rattle.std.specs.Prelude.{◌≡◌, ℕ, Bool, true, false, List, Some, None, codes, Option, ◌≢◌}
use Rattle.source.specs.declared.ExportsKind.{ExportsKind}
use Rattle.source.specs.declared.ExportsKind.TheVariants as exports
use Rattle.source.specs.declared.ImportKind.{ImportKind}
use Rattle.source.specs.declared.ImportKind.TheVariants.{Import, Require, DynamicImport, AtImport, UrlImport, NewUrl, HotAccept}
use Rattle.table_words.specs.declared.words.Flag.{Flag}
use Rattle.table_words.specs.declared.words.Flag.TheVariants.{Lazy, Await, Module, Node, Entry}

abbrev pub exports_word : ExportsKind → List ℕ
exports_word exports.None = codes "none"
exports_word exports.Esm = codes "esm"
exports_word exports.CommonJs = codes "cjs"

abbrev pub import_word : ImportKind → List ℕ
import_word Import = codes "import"
import_word Require = codes "require"
import_word DynamicImport = codes "dynamic-import"
import_word AtImport = codes "at-import"
import_word UrlImport = codes "url-import"
import_word NewUrl = codes "new-url"
import_word HotAccept = codes "hot-accept"

abbrev pub flag_word : Flag → List ℕ
flag_word Lazy = codes "lazy"
flag_word Await = codes "await"
flag_word Module = codes "module"
flag_word Node = codes "node"
flag_word Entry = codes "entry"

abbrev pub yes_no : Bool → List ℕ
yes_no true = codes "yes"
yes_no false = codes "no"

abbrev pub Named : {K : Type 0} → (K → List ℕ) → List ℕ → Option K → Type 0
Named word text (Some k) = text ≡ word k
Named {K} word text None = (k : K) → text ≢ word k
