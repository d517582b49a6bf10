-- The settled marks, from the meaning and the options alone.
--
--   Cause         why a module has to be wrapped: it is the target of a record that acts as `Require`; it was scanned as
--                 CommonJS, and the importer rule wraps it; it ends CommonJS, and some record is resolved to it
--   MustWrap      the normal modules but the runtime to which records lead from a cause
--   MustRequire   the normal targets of a `Require`, and the external ones of one in a wrapped module
--   MustOpen      the modules whose names are known only when they have run
--   MarkedBy      the kinds are the settled ones, these modules are wrapped, by their kind, and every other mark is yes
--                 exactly where it must be
--   Settled       that, with the modules wrapped that must be
use Rattle.std.specs.Prelude.{◌≡◌, ℕ, ◌<◌, true, ◌↔◌, List}
use Rattle.source.specs.declared.ExportsKind.TheVariants.{CommonJs}
use Rattle.source.specs.declared.Module.TheVariants.{Normal}
use Rattle.source.specs.declared.NormalModule.{NormalModule}
use Rattle.source.specs.Meaning.{Meaning, count_of, module_at}
use Rattle.marks.specs.declared.options.LinkOptions.{LinkOptions}
use Rattle.marks.specs.declared.rows.MarkRow.{MarkRow}
use Rattle.marks.specs.Kinds.{settled_kind, importer_rule}
use Rattle.marks.specs.Passes.{Reached, CommonJsTarget, RequiredBy, OpenExports, Awaits}
use Rattle.marks.specs.Records.{NormalAt, ActsRequiring}
use Rattle.marks.specs.Rows.{row_at, kind_in, wrapped_in, required_in, dynamic_in, awaiting_in}
use Rattle.marks.specs.Rules.{wrap_of}

pub data Cause (w : Meaning) (o : LinkOptions) (m : ℕ) : Type 0 where
  required : NormalAt w m → {i : ℕ} → ActsRequiring w o i m → Cause w o m
  importer : (n : NormalModule) → module_at w m ≡ Normal n → n.scanned ≡ CommonJs → importer_rule o n ≡ true → Cause w o m
  target : CommonJsTarget w (settled_kind w o) m → Cause w o m

abbrev pub MustWrap : Meaning → LinkOptions → ℕ → Type 0
MustWrap w o = Reached w (Cause w o)

abbrev pub MustRequire : Meaning → LinkOptions → ℕ → Type 0
MustRequire w o = RequiredBy w (MustWrap w o)

abbrev pub MustOpen : Meaning → LinkOptions → ℕ → Type 0
MustOpen w o = OpenExports w (settled_kind w o)

pub record MarkedBy (w : Meaning) (o : LinkOptions) (Wrapped : ℕ → Type 0) (rows : List MarkRow) : Type 0 where
  pub kind : (m : ℕ) → m < count_of w → kind_in rows m ≡ settled_kind w o m
  pub wrapped : (m : ℕ) → m < count_of w → (wrapped_in rows m ≡ true) ↔ Wrapped m
  pub wrap : (m : ℕ) → m < count_of w → wrapped_in rows m ≡ true → (row_at rows m).wrap ≡ wrap_of (settled_kind w o m)
  pub required : (m : ℕ) → m < count_of w → (required_in rows m ≡ true) ↔ MustRequire w o m
  pub dynamic : (m : ℕ) → m < count_of w → (dynamic_in rows m ≡ true) ↔ MustOpen w o m
  pub awaiting : (m : ℕ) → m < count_of w → (awaiting_in rows m ≡ true) ↔ Awaits w m

abbrev pub Settled : Meaning → LinkOptions → List MarkRow → Type 0
Settled w o rows = MarkedBy w o (MustWrap w o) rows
