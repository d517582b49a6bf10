-- What every call keeps: the marks so far are among the settled ones, and what is settled stays. Assumes nothing.
use Rattle.std.proofs.Common.{◌≡◌, ℕ, ◌<◌, Bool, true, false, List, sym, ap, ◌∙◌, subst, inl, inr}
use mathlib.Core.Bool.{false≢true}
use Rattle.source.specs.declared.ExportsKind.{ExportsKind}
use Rattle.source.specs.declared.ExportsKind.TheVariants.{Esm, CommonJs}
use Rattle.source.specs.declared.Module.{Module}
use Rattle.source.specs.declared.Module.TheVariants.{Normal}
use Rattle.source.specs.declared.NormalModule.{NormalModule}
use Rattle.source.specs.Meaning.{Meaning, count_of, module_at}
use Rattle.marks.specs.declared.options.LinkOptions.{LinkOptions}
use Rattle.marks.specs.declared.rows.MarkRow.{MarkRow}
use Rattle.settled.specs.declared.calls.Pass.{Pass}
use Rattle.settled.specs.declared.calls.Pass.TheVariants.{Kinds, Star, Wrap, Await, Entries}
use Rattle.marks.specs.Records.{NormalAt, ActsRequiring, Stars, LeadsOn, Leads, here, along}
use Rattle.lawful.specs.Lawful.{Lawful}
use Rattle.marks.specs.Rows.{kind_in, wrapped_in, required_in, dynamic_in, awaiting_in, Raised}
use Rattle.marks.specs.Rules.{is_wrapped, read_wrap}
use Rattle.marks.specs.Kinds.{ripe, first_made, kind_scanned, scanned_kind, settled_kind}
use Rattle.marks.specs.Passes.{Did, BeginDid, KindsWraps, OpenExports, Reached, WrapStarts, RequiredBy, Awaits}
use Rattle.marks.specs.Passes as passes
use Rattle.settled.specs.Settled.{Cause, MustWrap, MustRequire, MustOpen}
use Rattle.settled.specs.Settled as settled
use Rattle.settled.specs.Runs.{PassDid, Answered}
use Rattle.marks.proofs.Makes.{esm_common, or_else_common}
use Rattle.marks.proofs.Records.{normal_below, leads_trans}
use Rattle.settled.proofs.Facts.{or_else_twice}
use Rattle.settled.proofs.ByFirst.{made_common}

-- the marks so far are among the settled ones
pub record Under (w : Meaning) (o : LinkOptions) (rows : List MarkRow) : Type 0 where
  pub kind : (m : ℕ) → m < count_of w → ripe w o m (kind_in rows m) ≡ settled_kind w o m
  pub wrap : (m : ℕ) → m < count_of w → wrapped_in rows m ≡ true → MustWrap w o m
  pub required : (m : ℕ) → m < count_of w → required_in rows m ≡ true → MustRequire w o m
  pub dynamic : (m : ℕ) → m < count_of w → dynamic_in rows m ≡ true → MustOpen w o m
  pub awaiting : (m : ℕ) → m < count_of w → awaiting_in rows m ≡ true → Awaits w m

-- what is settled stays, and what is yes stays
pub record Grows (w : Meaning) (o : LinkOptions) (old new : List MarkRow) : Type 0 where
  pub kind : (m : ℕ) → m < count_of w → kind_in old m ≡ settled_kind w o m → kind_in new m ≡ settled_kind w o m
  pub wrap : (m : ℕ) → m < count_of w → wrapped_in old m ≡ true → wrapped_in new m ≡ true
  pub required : (m : ℕ) → m < count_of w → required_in old m ≡ true → required_in new m ≡ true
  pub dynamic : (m : ℕ) → m < count_of w → dynamic_in old m ≡ true → dynamic_in new m ≡ true
  pub awaiting : (m : ℕ) → m < count_of w → awaiting_in old m ≡ true → awaiting_in new m ≡ true

pub record Steps (w : Meaning) (o : LinkOptions) (old new : List MarkRow) : Type 0 where
  pub under : Under w o new
  pub grows : Grows w o old new

raise : {P Q : Type 0} {old new : Bool} → Raised P old new → (old ≡ true → Q) → (P → Q) → new ≡ true → Q
raise {Q = Q} r f g e = elim (r.only e) [ inl a ↦ f a | inr p ↦ g p ]

module _ (w : Meaning) (o : LinkOptions) where
  pub begin_under : (old new : List MarkRow) → BeginDid w old new → Under w o new
  begin_under old new b = record {
    kind = λ m h. ap (λ (r : MarkRow). ripe w o m r.kind) (b.rows m h);
    wrap = λ m h e. absurd (false≢true (ap (λ (r : MarkRow). is_wrapped (read_wrap r.kind r.wrap)) (sym (b.rows m h)) ∙ e));
    required = λ m h e. absurd (false≢true (ap (λ (r : MarkRow). r.required) (sym (b.rows m h)) ∙ e));
    dynamic = λ m h e. absurd (false≢true (ap (λ (r : MarkRow). r.dynamic) (sym (b.rows m h)) ∙ e));
    awaiting = λ m h e. absurd (false≢true (ap (λ (r : MarkRow). r.awaiting) (sym (b.rows m h)) ∙ e));
  }

  -- any pass that turns kinds towards the settled ones and raises settled marks only
  pub did_steps : (old new : List MarkRow) (kinds : ℕ → ExportsKind) (W R D A : ℕ → Type 0) (E : ℕ → ℕ → Type 0) → Did w old new kinds W R D A E → Under w o old
      → ((m : ℕ) → m < count_of w → ripe w o m (kinds m) ≡ settled_kind w o m)
      → ((m : ℕ) → m < count_of w → kind_in old m ≡ settled_kind w o m → kinds m ≡ settled_kind w o m)
      → ((m : ℕ) → m < count_of w → W m → MustWrap w o m)
      → ((m : ℕ) → m < count_of w → R m → MustRequire w o m)
      → ((m : ℕ) → m < count_of w → D m → MustOpen w o m)
      → ((m : ℕ) → m < count_of w → A m → Awaits w m)
      → Steps w o old new
  did_steps old new kinds W R D A E d u ripens stays wraps requires opens awaits = record {
    under = record {
      kind = λ m h. ap (ripe w o m) (d.kind m h) ∙ ripens m h;
      wrap = λ m h. raise (d.wrap m h) (u.wrap m h) (wraps m h);
      required = λ m h. raise (d.required m h) (u.required m h) (requires m h);
      dynamic = λ m h. raise (d.dynamic m h) (u.dynamic m h) (opens m h);
      awaiting = λ m h. raise (d.awaiting m h) (u.awaiting m h) (awaits m h);
    };
    grows = record {
      kind = λ m h e. d.kind m h ∙ stays m h e;
      wrap = λ m h. (d.wrap m h).kept;
      required = λ m h. (d.required m h).kept;
      dynamic = λ m h. (d.dynamic m h).kept;
      awaiting = λ m h. (d.awaiting m h).kept;
    };
  }

  -- a CommonJS kind stays
  common_stays : (m : ℕ) (kind : ExportsKind) → kind ≡ CommonJs → ripe w o m kind ≡ CommonJs
  common_stays m kind e = ap (ripe w o m) e

  pub under_common : (rows : List MarkRow) → Under w o rows → (m : ℕ) → m < count_of w → kind_in rows m ≡ CommonJs → settled_kind w o m ≡ CommonJs
  under_common rows u m h e = sym (u.kind m h) ∙ common_stays m (kind_in rows m) e

module _ (w : Meaning) (o : LinkOptions) (lawful : Lawful w o) where
  runtime_esm : settled_kind w o w.runtime ≡ Esm
  runtime_esm = let r = lawful.runtime_normal in ap (λ (d : Module). ripe w o w.runtime (kind_scanned d)) r.1 ∙ ap (ripe w o w.runtime) r.2

  common_no_runtime : (m : ℕ) → settled_kind w o m ≡ CommonJs → m ≡ w.runtime → ⊥
  common_no_runtime m e is = esm_common (sym runtime_esm ∙ ap (settled_kind w o) (sym is) ∙ e)

  pub scanned_settles : (m : ℕ) (n : NormalModule) → module_at w m ≡ Normal n → n.scanned ≡ CommonJs → settled_kind w o m ≡ CommonJs
  scanned_settles m n e c = ap (λ (d : Module). ripe w o m (kind_scanned d)) e ∙ ap (ripe w o m) c

  pub cause_no_runtime : (m : ℕ) → Cause w o m → m ≡ w.runtime → ⊥
  cause_no_runtime m (settled.required n {i} r) is = lawful.runtime_free i (subst (λ (t : ℕ). ActsRequiring w o i t) is r)
  cause_no_runtime m (settled.importer n e c r) is = common_no_runtime m (scanned_settles m n e c) is
  cause_no_runtime m (settled.target t) is = common_no_runtime m t.common is

  -- what kinds wraps is a cause
  kinds_cause : (m : ℕ) → KindsWraps w o (settled_kind w o) m → Cause w o m
  kinds_cause m (passes.required n r) = settled.required n r
  kinds_cause m (passes.importer n e c r) = elim (or_else_common (scanned_kind w m) (first_made w o m) c) [
    | inl a ↦ settled.importer n e (sym (ap kind_scanned e) ∙ a) r
    | inr b ↦ let f = made_common w o m b in settled.required (n, e) f.1
  ]

  cause_normal : (m : ℕ) → Cause w o m → NormalAt w m
  cause_normal m (settled.required n r) = n
  cause_normal m (settled.importer n e c r) = (n, e)
  cause_normal m (settled.target t) = t.normal

  pub cause_wraps : (m : ℕ) → Cause w o m → MustWrap w o m
  cause_wraps m c = record { normal = cause_normal m c; no_runtime = cause_no_runtime m c; start = m; starts = c; leads = here }

  pub kinds_as : (f g : ℕ → ExportsKind) (m : ℕ) → f m ≡ g m → KindsWraps w o f m → KindsWraps w o g m
  kinds_as f g m e (passes.required n r) = passes.required n r
  kinds_as f g m e (passes.importer n d c r) = passes.importer n d (sym e ∙ c) r

  -- star records lead to modules
  pub stars_below : (m t : ℕ) → m < count_of w → Leads (Stars w) m t → t < count_of w
  stars_below m t h here = h
  stars_below m t h (along {a} {b} s l) = lawful.targets a b (s.0, s.1, s.3)

  -- openness goes by the kinds of modules alone
  pub open_as : (f g : ℕ → ExportsKind) → ((m : ℕ) → m < count_of w → f m ≡ CommonJs → g m ≡ CommonJs) → (m : ℕ) → m < count_of w → OpenExports w f m → OpenExports w g m
  open_as f g le m h p = record {
    star = p.star;
    last = p.last;
    leads = p.leads;
    open_end = elim p.open_end [ inl x ↦ inl x | inr c ↦ inr (le p.last (stars_below m p.last h p.leads) c) ];
  }

  pub wrap_more : (m t : ℕ) → MustWrap w o m → NormalAt w t → (t ≡ w.runtime → ⊥) → Leads (LeadsOn w) m t → MustWrap w o t
  wrap_more m t p n x l = record { normal = n; no_runtime = x; start = p.start; starts = p.starts; leads = leads_trans p.leads l }

  start_wraps : (old : List MarkRow) → Under w o old → (m : ℕ) → WrapStarts w old m → MustWrap w o m
  start_wraps old u m s = elim s.1 [
    | inl t ↦ cause_wraps m (settled.target (record { normal = t.normal; common = under_common w o old u m (normal_below w m t.normal) t.common; importer = t.importer; mentions = t.mentions }))
    | inr a ↦ u.wrap m (normal_below w m a.0) a.1
  ]

  reached_wraps : (old : List MarkRow) → Under w o old → (m : ℕ) → Reached w (WrapStarts w old) m → MustWrap w o m
  reached_wraps old u m r = wrap_more r.start m (start_wraps old u r.start r.starts) r.normal r.no_runtime r.leads

  pub requires_as : (V W : ℕ → Type 0) → ((m : ℕ) → V m → W m) → (m : ℕ) → RequiredBy w V m → RequiredBy w W m
  requires_as V W f m (passes.normal n r) = passes.normal n r
  requires_as V W f m (passes.external x {i} v r) = passes.external x (f i v) r

  -- what each call keeps
  pub pass_steps : (pass : Pass) (old new : List MarkRow) → PassDid pass w o old new → Under w o old → Steps w o old new
  pass_steps Kinds old new d u = did_steps w o old new _ _ _ _ _ _ d u
      (λ m h. or_else_twice (kind_in old m) (first_made w o m) ∙ u.kind m h)
      (λ m h e. u.kind m h)
      (λ m h p. cause_wraps m (kinds_cause m (kinds_as (λ x. ripe w o x (kind_in old x)) (settled_kind w o) m (u.kind m h) p)))
      (λ m h x. absurd x) (λ m h x. absurd x) (λ m h x. absurd x)
  pass_steps Star old new d u = did_steps w o old new _ _ _ _ _ _ d u
      u.kind (λ m h e. e) (λ m h x. absurd x) (λ m h x. absurd x)
      (λ m h p. open_as (kind_in old) (settled_kind w o) (under_common w o old u) m h p)
      (λ m h x. absurd x)
  pass_steps Wrap old new d u = did_steps w o old new _ _ _ _ _ _ d u
      u.kind (λ m h e. e)
      (λ m h p. reached_wraps old u m p)
      (λ m h p. requires_as (Reached w (WrapStarts w old)) (MustWrap w o) (reached_wraps old u) m p)
      (λ m h x. absurd x) (λ m h x. absurd x)
  pass_steps Await old new d u = did_steps w o old new _ _ _ _ _ _ d u
      u.kind (λ m h e. e) (λ m h x. absurd x) (λ m h x. absurd x) (λ m h x. absurd x) (λ m h p. p)
  pass_steps Entries old new d u = did_steps w o old new _ _ _ _ _ _ d u
      u.kind (λ m h e. e) (λ m h x. absurd x) (λ m h x. absurd x) (λ m h x. absurd x) (λ m h x. absurd x)

  grows_none : (old : List MarkRow) → Grows w o old old
  grows_none old = record { kind = λ m h e. e; wrap = λ m h e. e; required = λ m h e. e; dynamic = λ m h e. e; awaiting = λ m h e. e }

  pub answer_steps : (accepted : Bool) (pass : Pass) (old new : List MarkRow) → Answered accepted pass w o old new → Under w o old → Steps w o old new
  answer_steps true pass old new d u = pass_steps pass old new d u
  answer_steps false pass old new e u = subst (λ (rows : List MarkRow). Steps w o old rows) (sym e) (record { under = u; grows = grows_none old })
