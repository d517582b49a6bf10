-- Settled marks in nine small graphs. Module 0 is the runtime, which has no records.
--
--   normal, scans, lazy, awaiter, entry_common   normal modules: of a scanned kind, and with one flag more
--   points, stars                                a record of a kind to a module; `export * from` a module
--   graph                                        these modules after the runtime
--   Reads, Dynamic, Awaiting                     how settled rows read at a module
--   Finishes                                     how rows read at a module that finish leaves over settled ones
--   Worked                                       the examples
use Rattle.std.specs.Prelude.{◌≡◌, ℕ, Bool, true, false, List, [], ◌∷◌, Some}
use Rattle.source.specs.declared.ImportKind.{ImportKind}
use Rattle.source.specs.declared.ImportKind.TheVariants.{Import, Require}
use Rattle.source.specs.declared.ImportRecord.{ImportRecord}
use Rattle.source.specs.declared.ExportsKind.{ExportsKind}
use Rattle.source.specs.declared.ExportsKind.TheVariants.{None as Unknown, Esm, CommonJs}
use Rattle.source.specs.declared.Module.TheVariants.{Normal}
use Rattle.source.specs.declared.NormalModule.{NormalModule}
use Rattle.source.specs.Meaning.{Meaning, Scanned}
use Rattle.marks.specs.declared.options.LinkOptions.{LinkOptions}
use Rattle.marks.specs.declared.options.OutputFormat.TheVariants.{Cjs, Iife}
use Rattle.marks.specs.declared.rows.AwaitRow.{AwaitRow}
use Rattle.marks.specs.declared.rows.MarkRow.{MarkRow}
use Rattle.marks.specs.declared.rows.WrapKind.{WrapKind}
use Rattle.marks.specs.declared.rows.WrapKind.TheVariants.{None as Unwrapped, Cjs as AsCjs, Esm as AsEsm}
use Rattle.marks.specs.Passes.{FinishDid}
use Rattle.marks.specs.Rows.{kind_in, wrap_in, dynamic_in, awaiting_in}
use Rattle.tla.specs.Rows.{row_in, AwaitRows}
use Rattle.settled.specs.Settled.{Settled}

abbrev pub normal : ExportsKind → Bool → Bool → Bool → Bool → NormalModule
normal kind lazily awaits uses enters = record { scanned = kind; lazy_export = lazily; top_level_await = awaits; module_or_exports = uses; node_esm = false; entry = enters; await_span = record { start = 0; end = 0 } }

abbrev pub scans : ExportsKind → List ImportRecord → Scanned
scans kind records = record { described = Normal (normal kind false false false false); records = records }

abbrev pub lazy : Scanned
lazy = record { described = Normal (normal Unknown true false false false); records = [] }

abbrev pub awaiter : Scanned
awaiter = record { described = Normal (normal Esm false true false false); records = [] }

abbrev pub entry_common : Bool → Scanned
entry_common uses = record { described = Normal (normal CommonJs false false uses true); records = [] }

abbrev pub points : ImportKind → ℕ → ImportRecord
points kind t = record { kind = kind; target = Some t; star = false; span = record { start = 0; end = 0 } }

abbrev pub stars : ℕ → ImportRecord
stars t = record { kind = Import; target = Some t; star = true; span = record { start = 0; end = 0 } }

abbrev pub graph : List Scanned → Meaning
graph modules = record { runtime = 0; modules = scans Esm [] ∷ modules }

abbrev pub Reads : Meaning → LinkOptions → ℕ → ExportsKind → WrapKind → Type 0
Reads w o m kind wrap = (rows : List MarkRow) → Settled w o rows → (kind_in rows m ≡ kind) × (wrap_in rows m ≡ wrap)

abbrev pub Dynamic : Meaning → LinkOptions → ℕ → Bool → Type 0
Dynamic w o m b = (rows : List MarkRow) → Settled w o rows → dynamic_in rows m ≡ b

abbrev pub Awaiting : Meaning → LinkOptions → ℕ → Bool → Type 0
Awaiting w o m b = (rows : List MarkRow) → Settled w o rows → awaiting_in rows m ≡ b

abbrev pub Finishes : Meaning → LinkOptions → ℕ → ExportsKind → WrapKind → Type 0
Finishes w o m kind wrap = (rows left : List MarkRow) → Settled w o rows → FinishDid w o rows left → (kind_in left m ≡ kind) × (wrap_in left m ≡ wrap)

-- 1 has no kind, and 2 imports it
abbrev pub imported : Meaning
imported = graph (scans Unknown [] ∷ scans Esm (points Import 1 ∷ []) ∷ [])

-- 1 has no kind and exports lazily, and 2 imports it
abbrev pub imported_lazy : Meaning
imported_lazy = graph (lazy ∷ scans Esm (points Import 1 ∷ []) ∷ [])

-- 1 has no kind, and 2 imports it and then requires it
abbrev pub import_first : Meaning
import_first = graph (scans Unknown [] ∷ scans Esm (points Import 1 ∷ points Require 1 ∷ []) ∷ [])

-- 1 has no kind, and 2 requires it and then imports it
abbrev pub require_first : Meaning
require_first = graph (scans Unknown [] ∷ scans Esm (points Require 1 ∷ points Import 1 ∷ []) ∷ [])

-- 2 imports the CommonJS 3, which imports 1
abbrev pub through_common : Meaning
through_common = graph (scans Esm [] ∷ scans Esm (points Import 3 ∷ []) ∷ scans CommonJs (points Import 1 ∷ []) ∷ [])

-- 1 is a CommonJS entry that uses `module` or `exports`, or not
abbrev pub lone_entry : Bool → Meaning
lone_entry uses = graph (entry_common uses ∷ [])

-- 1 and 2 export all of each other, and 1 all of the CommonJS 3
abbrev pub star_circle : Meaning
star_circle = graph (scans Esm (stars 2 ∷ stars 3 ∷ []) ∷ scans Esm (stars 1 ∷ []) ∷ scans CommonJs [] ∷ [])

-- 1 and 2 import each other, 1 also imports 3, which awaits, and 4 requires 2
abbrev pub await_circle : Meaning
await_circle = graph (scans Esm (points Import 2 ∷ points Import 3 ∷ []) ∷ scans Esm (points Import 1 ∷ []) ∷ awaiter ∷ scans Esm (points Require 2 ∷ []) ∷ [])

pub record Worked : Type 0 where
  -- an `import` makes a module ESM and wraps nothing
  pub an_import_makes_esm : (o : LinkOptions) → Reads imported o 1 Esm Unwrapped
  -- but it does not make a kind where the one export is lazy
  pub a_lazy_one_stays : (o : LinkOptions) → Reads imported_lazy o 1 Unknown Unwrapped
  -- of an `import` and a `require` the first makes the kind, and the module is wrapped by it
  pub import_then_require : (o : LinkOptions) → Reads import_first o 1 Esm AsEsm
  pub require_then_import : (o : LinkOptions) → Reads require_first o 1 CommonJs AsCjs
  -- an imported CommonJS module is wrapped with all that it imports, and its importer is not
  pub common_leads_on : (o : LinkOptions) → Reads through_common o 3 CommonJs AsCjs × Reads through_common o 1 Esm AsEsm × Reads through_common o 2 Esm Unwrapped
  -- a CommonJS entry alone stays unwrapped where the bundle is CommonJS, until finish wraps it for strict order with manual groups
  pub a_lone_entry : (o : LinkOptions) (uses : Bool) → o.format ≡ Cjs → Reads (lone_entry uses) o 1 CommonJs Unwrapped
  pub a_strict_entry : (o : LinkOptions) (uses : Bool) → o.format ≡ Cjs → o.strict_order ≡ true → o.manual_groups ≡ true → Finishes (lone_entry uses) o 1 CommonJs AsCjs
  -- in a bundle that is a function it is wrapped just where it uses `module` or `exports`
  pub an_entry_by_its_use : (o : LinkOptions) → o.format ≡ Iife → Reads (lone_entry true) o 1 CommonJs AsCjs × Reads (lone_entry false) o 1 CommonJs Unwrapped
  -- a circle of stars is dynamic where one of them leads to a CommonJS module
  pub star_circles : (o : LinkOptions) → Dynamic star_circle o 1 true × Dynamic star_circle o 2 true × Dynamic star_circle o 3 true × Dynamic star_circle o 0 false
  -- a circle of imports waits for the await that one of them leads to, a `require` does not wait, and its row names that await
  pub await_circles : (o : LinkOptions) → Awaiting await_circle o 1 true × Awaiting await_circle o 2 true × Awaiting await_circle o 3 true × Awaiting await_circle o 4 false
  pub the_await_named : (old left : List AwaitRow) (n : ℕ) → AwaitRows await_circle old left n → (n ≡ 1) × ((row_in left 0).importer ≡ 4) × ((row_in left 0).«record» ≡ 0) × ((row_in left 0).source ≡ 3)
