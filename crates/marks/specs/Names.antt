-- The names of the runtime's helpers.
--
--   helper_text   the helper as it stands in the bundle
use Rattle.std.specs.Prelude.{ℕ, List, codes}
use Rattle.marks.specs.declared.rows.Helper.{Helper}
use Rattle.marks.specs.declared.rows.Helper.TheVariants.{CommonJs, CommonJsMin, Esm, EsmMin}

abbrev pub helper_text : Helper → List ℕ
helper_text CommonJs = codes "__commonJS"
helper_text CommonJsMin = codes "__commonJSMin"
helper_text Esm = codes "__esm"
helper_text EsmMin = codes "__esmMin"
