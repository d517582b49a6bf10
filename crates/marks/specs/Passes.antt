-- What an accepted call does to the rows, whatever they were.
--
--   Did              what a pass writes, row by row: the kinds, which marks it raises, and the entry sets
--   BeginDid         begin: scanned kinds, and the rest cleared
--   KindsDid         kinds, with KindsWraps: which modules it wraps
--   StarDid          star, with OpenExports: which modules' names are known only when they have run
--   WrapDid          wrap, with WrapStarts, Reached and RequiredBy
--   AwaitDid         await, with Awaits
--   EntriesDid       entries, with rank, Brings and EntriesTo
--   FinishDid        finish, with StrictWraps: which modules it wraps
use Rattle.std.specs.Prelude.{◌≡◌, ℕ, ◌/◌, ◌%◌, ◌^◌, ◌<◌, ◌≤◌, Bool, true, false, ◌⊎◌, ◌↔◌, List, length, take, count_by, ◌≢◌}
use Rattle.source.specs.declared.ExportsKind.{ExportsKind}
use Rattle.source.specs.declared.ExportsKind.TheVariants.{CommonJs}
use Rattle.source.specs.declared.Module.{Module}
use Rattle.source.specs.declared.Module.TheVariants.{External, Normal}
use Rattle.source.specs.declared.NormalModule.{NormalModule}
use Rattle.source.specs.Meaning.{Meaning, Scanned, count_of, module_at}
use Rattle.marks.specs.declared.options.LinkOptions.{LinkOptions}
use Rattle.marks.specs.declared.rows.MarkRow.{MarkRow}
use Rattle.marks.specs.Records.{NormalAt, ExternalAt, Mentions, Imports, Requires, ActsRequiring, HasStar, Stars, LeadsOn, Leads}
use Rattle.marks.specs.Rows.{row_at, kind_in, wrapped_in, required_in, dynamic_in, awaiting_in, entries_in, keeps_rule, Raised}
use Rattle.marks.specs.Rules.{cleared}
use Rattle.marks.specs.Kinds.{ripe, scanned_kind, importer_rule}

-- what a pass writes, row by row: the kinds, which marks it raises, and the entry sets
pub record Did (w : Meaning) (old new : List MarkRow) (kinds : ℕ → ExportsKind) (Wrapped Required Dynamic Awaiting : ℕ → Type 0) (Entered : ℕ → ℕ → Type 0) : Type 0 where
  pub long : length new ≡ length old
  pub past : (m : ℕ) → count_of w ≤ m → row_at new m ≡ row_at old m
  pub rule : (m : ℕ) → m < count_of w → keeps_rule (row_at new m)
  pub kind : (m : ℕ) → m < count_of w → kind_in new m ≡ kinds m
  pub wrap : (m : ℕ) → m < count_of w → Raised (Wrapped m) (wrapped_in old m) (wrapped_in new m)
  pub required : (m : ℕ) → m < count_of w → Raised (Required m) (required_in old m) (required_in new m)
  pub dynamic : (m : ℕ) → m < count_of w → Raised (Dynamic m) (dynamic_in old m) (dynamic_in new m)
  pub awaiting : (m : ℕ) → m < count_of w → Raised (Awaiting m) (awaiting_in old m) (awaiting_in new m)
  pub entries : (m : ℕ) → m < count_of w → Entered m (entries_in new m)

abbrev pub Nowhere : ℕ → Type 0
Nowhere m = ⊥

abbrev pub SameEntries : List MarkRow → ℕ → ℕ → Type 0
SameEntries old m e = e ≡ entries_in old m

-- begin: scanned kinds, and the rest cleared
pub record BeginDid (w : Meaning) (old new : List MarkRow) : Type 0 where
  pub long : length new ≡ length old
  pub past : (m : ℕ) → count_of w ≤ m → row_at new m ≡ row_at old m
  pub rows : (m : ℕ) → m < count_of w → row_at new m ≡ cleared (scanned_kind w m)

-- kinds wraps a normal target of `Require`, or of `DynamicImport` with splitting off, and a CommonJS importer under the importer rule
pub data KindsWraps (w : Meaning) (o : LinkOptions) (kinds : ℕ → ExportsKind) (m : ℕ) : Type 0 where
  required : NormalAt w m → {i : ℕ} → ActsRequiring w o i m → KindsWraps w o kinds m
  importer : (n : NormalModule) → module_at w m ≡ Normal n → kinds m ≡ CommonJs → importer_rule o n ≡ true → KindsWraps w o kinds m

abbrev pub KindsDid : Meaning → LinkOptions → List MarkRow → List MarkRow → Type 0
KindsDid w o old new = Did w old new (λ m. ripe w o m (kind_in old m)) (KindsWraps w o (λ m. ripe w o m (kind_in old m))) Nowhere Nowhere Nowhere (SameEntries old)

-- a module with a star record or the target of one, from which star records lead to an external or CommonJS module
pub record OpenExports (w : Meaning) (kinds : ℕ → ExportsKind) (m : ℕ) : Type 0 where
  pub star : HasStar w m ⊎ ((i : ℕ) × Stars w i m)
  pub last : ℕ
  pub leads : Leads (Stars w) m last
  pub open_end : ExternalAt w last ⊎ (kinds last ≡ CommonJs)

abbrev pub StarDid : Meaning → LinkOptions → List MarkRow → List MarkRow → Type 0
StarDid w o old new = Did w old new (kind_in old) Nowhere Nowhere (OpenExports w (kind_in old)) Nowhere (SameEntries old)

-- the normal modules but the runtime to which records lead from a start
pub record Reached (w : Meaning) (Start : ℕ → Type 0) (m : ℕ) : Type 0 where
  pub normal : NormalAt w m
  pub no_runtime : m ≡ w.runtime → ⊥
  pub start : ℕ
  pub starts : Start start
  pub leads : Leads (LeadsOn w) start m

-- a normal CommonJS target of a normal module's record
pub record CommonJsTarget (w : Meaning) (kinds : ℕ → ExportsKind) (m : ℕ) : Type 0 where
  pub normal : NormalAt w m
  pub common : kinds m ≡ CommonJs
  pub importer : ℕ
  pub mentions : Mentions w importer m

-- wrap starts there and from normal modules already wrapped, the runtime aside
abbrev pub WrapStarts : Meaning → List MarkRow → ℕ → Type 0
WrapStarts w old m = (m ≢ w.runtime) × (CommonJsTarget w (kind_in old) m ⊎ (NormalAt w m × (wrapped_in old m ≡ true)))

-- a normal target of a normal module's `Require`, and an external one of a wrapped importer's
pub data RequiredBy (w : Meaning) (Wrapped : ℕ → Type 0) (m : ℕ) : Type 0 where
  normal : NormalAt w m → {i : ℕ} → Requires w i m → RequiredBy w Wrapped m
  external : ExternalAt w m → {i : ℕ} → Wrapped i → Requires w i m → RequiredBy w Wrapped m

abbrev pub WrapDid : Meaning → LinkOptions → List MarkRow → List MarkRow → Type 0
WrapDid w o old new = Did w old new (kind_in old) (Reached w (WrapStarts w old)) (RequiredBy w (Reached w (WrapStarts w old))) Nowhere Nowhere (SameEntries old)

-- a normal module from which `Import` records lead to one with the await flag
pub record Awaits (w : Meaning) (m : ℕ) : Type 0 where
  pub normal : NormalAt w m
  pub last : ℕ
  pub leads : Leads (Imports w) m last
  pub waiting : (n : NormalModule) × (module_at w last ≡ Normal n) × (n.top_level_await ≡ true)

abbrev pub AwaitDid : Meaning → LinkOptions → List MarkRow → List MarkRow → Type 0
AwaitDid w o old new = Did w old new (kind_in old) Nowhere Nowhere Nowhere (Awaits w) (SameEntries old)

-- entries: rank r is in the set of m exactly if the entry module of rank r leads there by `Import` and `Require`
abbrev pub is_entry : Module → Bool
is_entry External = false
is_entry (Normal n) = n.entry

abbrev pub entry_scanned : Scanned → Bool
entry_scanned s = is_entry s.described

abbrev pub rank : Meaning → ℕ → ℕ
rank w q = count_by entry_scanned (take q w.modules)

abbrev pub Brings : Meaning → ℕ → ℕ → Type 0
Brings w m t = Imports w m t ⊎ Requires w m t

pub record EntriesTo (w : Meaning) (m e : ℕ) : Type 0 where
  pub each : (q : ℕ) → is_entry (module_at w q) ≡ true → (e / 2 ^ rank w q % 2 ≡ 1) ↔ Leads (Brings w) q m
  pub no_more : e < 2 ^ rank w (count_of w)

abbrev pub EntriesDid : Meaning → LinkOptions → List MarkRow → List MarkRow → Type 0
EntriesDid w o old new = Did w old new (kind_in old) Nowhere Nowhere Nowhere Nowhere (EntriesTo w)

-- with strict order and manual groups, finish wraps every normal CommonJS module, leading nowhere
pub record StrictWraps (w : Meaning) (o : LinkOptions) (kinds : ℕ → ExportsKind) (m : ℕ) : Type 0 where
  pub strict : o.strict_order ≡ true
  pub groups : o.manual_groups ≡ true
  pub normal : NormalAt w m
  pub common : kinds m ≡ CommonJs

abbrev pub FinishDid : Meaning → LinkOptions → List MarkRow → List MarkRow → Type 0
FinishDid w o old new = Did w old new (kind_in old) (StrictWraps w o (kind_in old)) Nowhere Nowhere Nowhere (SameEntries old)
