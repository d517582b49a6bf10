-- Every order of calls settles the same marks. Assumes nothing.
use Rattle.std.proofs.Common.{◌≡◌, ℕ, ◌+◌, ◌<◌, Bool, true, ◌⊎◌, List, length, sym, refl, ap, ◌∙◌, subst, inl, inr, arith}
use Rattle.std.proofs.lemmas.Bool.{cases_eq}
use Rattle.source.specs.Meaning.{Meaning, count_of}
use Rattle.marks.specs.declared.options.LinkOptions.{LinkOptions}
use Rattle.marks.specs.declared.rows.MarkRow.{MarkRow}
use Rattle.settled.specs.declared.calls.Asked.{Asked}
use Rattle.settled.specs.declared.calls.Pass.{Pass}
use Rattle.settled.specs.declared.calls.Pass.TheVariants.{Kinds, Star, Wrap, Await}
use Rattle.marks.specs.Records.{NormalAt}
use Rattle.lawful.specs.Lawful.{Lawful}
use Rattle.marks.specs.Rows.{row_at, kind_in, wrapped_in, required_in, dynamic_in, awaiting_in}
use Rattle.marks.specs.Rules.{wrap_of}
use Rattle.marks.specs.Kinds.{ripe, settled_kind}
use Rattle.marks.specs.Passes.{BeginDid, KindsDid, StarDid, WrapDid, AwaitDid, KindsWraps, Reached, CommonJsTarget, WrapStarts, Awaits}
use Rattle.marks.specs.Passes as passes
use Rattle.settled.specs.Settled.{Settled, Cause, MustWrap, MustRequire, MustOpen}
use Rattle.settled.specs.Settled as settled
use Rattle.settled.specs.Runs.{PassDid, Answered, is_taken, Ran, begun, then_one, Accepted, Settling, call_at}
use Rattle.settled.specs.Theorem.{EveryOrderSettles, OneSettled}
use Rattle.marks.proofs.Records.{normal_below}
use Rattle.tla.proofs.Counted.{same_test}
use Rattle.settled.proofs.Facts.{wrap_reads, wraps_by_kind}
use Rattle.settled.proofs.Bounds.{Under, Grows, Steps, begin_under, answer_steps, cause_no_runtime, scanned_settles, kinds_as, open_as, requires_as}

-- what an accepted call leaves for good
pub record KindsDone (w : Meaning) (o : LinkOptions) (rows : List MarkRow) : Type 0 where
  pub kind : (m : ℕ) → m < count_of w → kind_in rows m ≡ settled_kind w o m
  pub wrap : (m : ℕ) → m < count_of w → KindsWraps w o (settled_kind w o) m → wrapped_in rows m ≡ true

pub record WrapDone (w : Meaning) (o : LinkOptions) (rows : List MarkRow) : Type 0 where
  pub wrap : (m : ℕ) → m < count_of w → MustWrap w o m → wrapped_in rows m ≡ true
  pub required : (m : ℕ) → m < count_of w → MustRequire w o m → required_in rows m ≡ true

abbrev pub StarDone : Meaning → LinkOptions → List MarkRow → Type 0
StarDone w o rows = (m : ℕ) → m < count_of w → MustOpen w o m → dynamic_in rows m ≡ true

abbrev pub AwaitDone : Meaning → LinkOptions → List MarkRow → Type 0
AwaitDone w o rows = (m : ℕ) → m < count_of w → Awaits w m → awaiting_in rows m ≡ true

-- what holds after i calls
pub record Holds (w : Meaning) (o : LinkOptions) (calls : List Asked) (i : ℕ) (rows : List MarkRow) : Type 0 where
  pub under : Under w o rows
  pub kinds : (j : ℕ) → j < i → Accepted calls Kinds j → KindsDone w o rows
  pub star : (j k : ℕ) → k < i → j < k → Accepted calls Kinds j → Accepted calls Star k → StarDone w o rows
  pub wrap : (j k : ℕ) → k < i → j < k → Accepted calls Kinds j → Accepted calls Wrap k → WrapDone w o rows
  pub await : (k : ℕ) → k < i → Accepted calls Await k → AwaitDone w o rows

module _ (w : Meaning) (o : LinkOptions) (lawful : Lawful w o) where
  -- what each accepted call adds
  pub kinds_adds : (old new : List MarkRow) → Under w o old → KindsDid w o old new → KindsDone w o new
  kinds_adds old new u d = record {
    kind = λ m h. d.kind m h ∙ u.kind m h;
    wrap = λ m h p. (d.wrap m h).made (kinds_as w o lawful (settled_kind w o) (λ x. ripe w o x (kind_in old x)) m (sym (u.kind m h)) p);
  }

  pub star_adds : (old new : List MarkRow) → KindsDone w o old → StarDid w o old new → StarDone w o new
  star_adds old new k d m h p = (d.dynamic m h).made (open_as w o lawful (settled_kind w o) (kind_in old) (λ x b e. k.kind x b ∙ e) m h p)

  cause_starts : (old : List MarkRow) → KindsDone w o old → (m : ℕ) → Cause w o m → WrapStarts w old m
  cause_starts old k m c = (cause_no_runtime w o lawful m c, by_cause c)
    where
      by_cause : Cause w o m → CommonJsTarget w (kind_in old) m ⊎ (NormalAt w m × (wrapped_in old m ≡ true))
      by_cause (settled.required n r) = inr (n, k.wrap m (normal_below w m n) (passes.required n r))
      by_cause (settled.importer n e s r) = inr ((n, e), k.wrap m (normal_below w m (n, e)) (passes.importer n e (scanned_settles w o lawful m n e s) r))
      by_cause (settled.target t) = inl (record { normal = t.normal; common = k.kind m (normal_below w m t.normal) ∙ t.common; importer = t.importer; mentions = t.mentions })

  must_reached : (old : List MarkRow) → KindsDone w o old → (m : ℕ) → MustWrap w o m → Reached w (WrapStarts w old) m
  must_reached old k m p = record { normal = p.normal; no_runtime = p.no_runtime; start = p.start; starts = cause_starts old k p.start p.starts; leads = p.leads }

  pub wrap_adds : (old new : List MarkRow) → KindsDone w o old → WrapDid w o old new → WrapDone w o new
  wrap_adds old new k d = record {
    wrap = λ m h p. (d.wrap m h).made (must_reached old k m p);
    required = λ m h p. (d.required m h).made (requires_as w o lawful (MustWrap w o) (Reached w (WrapStarts w old)) (must_reached old k) m p);
  }

  pub await_adds : (old new : List MarkRow) → AwaitDid w o old new → AwaitDone w o new
  await_adds old new d m h p = (d.awaiting m h).made p

  -- and every call keeps it
  pub kinds_keeps : (old new : List MarkRow) → Grows w o old new → KindsDone w o old → KindsDone w o new
  kinds_keeps old new g k = record { kind = λ m h. g.kind m h (k.kind m h); wrap = λ m h p. g.wrap m h (k.wrap m h p) }

  pub wrap_keeps : (old new : List MarkRow) → Grows w o old new → WrapDone w o old → WrapDone w o new
  wrap_keeps old new g k = record { wrap = λ m h p. g.wrap m h (k.wrap m h p); required = λ m h p. g.required m h (k.required m h p) }

  -- once all is done, the marks are settled
  pub done_settles : (rows : List MarkRow) → Under w o rows → KindsDone w o rows → StarDone w o rows → WrapDone w o rows → AwaitDone w o rows → Settled w o rows
  done_settles rows u kinds star wrap await = record {
    kind = kinds.kind;
    wrapped = λ m l. (u.wrap m l, wrap.wrap m l);
    wrap = λ m l e. wraps_by_kind (kind_in rows m) (row_at rows m).wrap e ∙ ap wrap_of (kinds.kind m l);
    required = λ m l. (u.required m l, wrap.required m l);
    dynamic = λ m l. (u.dynamic m l, star m l);
    awaiting = λ m l. (u.awaiting m l, await m l);
  }

module _ (w : Meaning) (o : LinkOptions) (lawful : Lawful w o) (calls : List Asked) where
  the_call : (pass : Pass) (i : ℕ) (old new : List MarkRow) → Accepted calls pass i → Answered (is_taken (call_at calls i).answer) (call_at calls i).pass w o old new → PassDid pass w o old new
  the_call pass i old new a d = subst (λ (c : Pass). PassDid c w o old new) a.asked (subst (λ (b : Bool). Answered b (call_at calls i).pass w o old new) a.taken d)

  step : (i j : ℕ) (old new : List MarkRow) → j ≡ i + 1 → Holds w o calls i old → Answered (is_taken (call_at calls i).answer) (call_at calls i).pass w o old new → Holds w o calls j new
  step i j old new is h d = record {
    under = s.under;
    kinds = λ a lt x. elim (cases_eq a i) [
      | inl e ↦ kinds_adds w o lawful old new h.under (the_call Kinds i old new (subst (Accepted calls Kinds) e x) d)
      | inr n ↦ kinds_keeps w o lawful old new s.grows (h.kinds a (omega arith) x)
    ];
    star = λ a b lt before x y. elim (cases_eq b i) [
      | inl e ↦ star_adds w o lawful old new (h.kinds a (omega arith) x) (the_call Star i old new (subst (Accepted calls Star) e y) d)
      | inr n ↦ λ m l p. s.grows.dynamic m l (h.star a b (omega arith) before x y m l p)
    ];
    wrap = λ a b lt before x y. elim (cases_eq b i) [
      | inl e ↦ wrap_adds w o lawful old new (h.kinds a (omega arith) x) (the_call Wrap i old new (subst (Accepted calls Wrap) e y) d)
      | inr n ↦ wrap_keeps w o lawful old new s.grows (h.wrap a b (omega arith) before x y)
    ];
    await = λ b lt y. elim (cases_eq b i) [
      | inl e ↦ await_adds w o lawful old new (the_call Await i old new (subst (Accepted calls Await) e y) d)
      | inr n ↦ λ m l p. s.grows.awaiting m l (h.await b (omega arith) y m l p)
    ];
  }
    where
      s : Steps w o old new
      s = answer_steps w o lawful (is_taken (call_at calls i).answer) (call_at calls i).pass old new d h.under

  start : (lent first : List MarkRow) → BeginDid w lent first → Holds w o calls 0 first
  start lent first b = record {
    under = begin_under w o lent first b;
    kinds = λ j lt. absurd (omega arith);
    star = λ j k lt. absurd (omega arith);
    wrap = λ j k lt. absurd (omega arith);
    await = λ k lt. absurd (omega arith);
  }

  holds : (lent first : List MarkRow) → BeginDid w lent first → {i : ℕ} {rows : List MarkRow} → Ran w o calls first i rows → Holds w o calls i rows
  holds lent first b begun = start lent first b
  holds lent first b (then_one {i} {j} {old} {new} e r d) = step i j old new e (holds lent first b r) d

  ends : (rows : List MarkRow) → Holds w o calls (length calls) rows → Settling calls → Settled w o rows
  ends rows h t =
      done_settles w o lawful rows h.under (h.kinds t.star.0 t.star.2.within t.star.2) (h.star t.star.0 t.star.1 t.star.3.within t.star.4 t.star.2 t.star.3)
      (h.wrap t.wrap.0 t.wrap.1 t.wrap.3.within t.wrap.4 t.wrap.2 t.wrap.3) (h.await t.await.0 t.await.1.within t.await.1)

pub every_order_settles : EveryOrderSettles
every_order_settles w o calls lent first rows lawful b r t = ends w o lawful calls rows (holds w o lawful calls lent first b r) t

pub one_settled : OneSettled
one_settled w o xs ys a b m h = record {
  kind = kinds;
  wrap = wrap_reads xs m (kind_in ys m) (wrapped_in ys m) kinds (same_test (wrapped_in xs m) (wrapped_in ys m) (a.wrapped m h) (b.wrapped m h)) ∙ sym (wrap_reads ys m (kind_in ys m) (wrapped_in ys m) refl refl);
  required = same_test (required_in xs m) (required_in ys m) (a.required m h) (b.required m h);
  dynamic = same_test (dynamic_in xs m) (dynamic_in ys m) (a.dynamic m h) (b.dynamic m h);
  awaiting = same_test (awaiting_in xs m) (awaiting_in ys m) (a.awaiting m h) (b.awaiting m h);
}
  where
    kinds : kind_in xs m ≡ kind_in ys m
    kinds = a.kind m h ∙ sym (b.kind m h)
