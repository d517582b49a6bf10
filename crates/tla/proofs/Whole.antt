-- The parts of the pass that marks the modules that wait together do what it promises. Assumes nothing.
use Rattle.std.proofs.Common.{◌≡◌, ℕ, ◌<◌, ◌≤◌, true, List, length, refl, ap, ◌∙◌, arith}
use mathlib.Core.Bool.{false≢true}
use Rattle.source.specs.declared.Module.{Module}
use Rattle.source.specs.declared.Module.TheVariants.{External, Normal}
use Rattle.source.specs.declared.NormalModule.{NormalModule}
use Rattle.source.specs.Meaning.{Meaning, count_of, module_at}
use Rattle.marks.specs.declared.options.LinkOptions.{LinkOptions}
use Rattle.marks.specs.declared.rows.MarkRow.{MarkRow}
use Rattle.marks.specs.Passes.{Awaits, AwaitDid}
use Rattle.marks.specs.Records.{NormalAt, Imports, Leads, here, along}
use Rattle.marks.specs.Rules.{agrees, is_wrapped, read_wrap}
use Rattle.marks.specs.Rows.{row_at, Written}
use Rattle.marks.proofs.Records.{leads_as}
use Rattle.marks.proofs.Writes.{read_agrees, read_again, raised_stays, raised_or}
use Rattle.spread.specs.declared.yes_no.YesNo.{YesNo}
use Rattle.spread.specs.Kinds.{plain_no, either}
use Rattle.ways.specs.declared.Way.TheVariants.{Awaits as AwaitWay}
use Rattle.ways.specs.Targets.{flag, Filled}
use Rattle.ways.specs.Ways.{Targets, Carried}
use Rattle.ways.proofs.Steps.{awaits_to, awaits_from, carried_from, carried_to}
use Rattle.tla.specs.Awaiting.{has_await, AwaitAt, AwaitingRow}

-- a module that has an await is a normal one
await_normal : (x : Module) → has_await x ≡ true → (n : NormalModule) × (x ≡ Normal n) × (n.top_level_await ≡ true)
await_normal External e = absurd (false≢true e)
await_normal (Normal n) e = (n, refl, e)

-- and so is one from which imports lead to it
pub leads_normal : (w : Meaning) (m last : ℕ) → Leads (Imports w) m last → NormalAt w last → NormalAt w m
leads_normal w m last here n = n
leads_normal w m last (along {a} s l) n = leads_normal w m a l s.1.importer

pub reach_awaits : (w : Meaning) (m last : ℕ) → Leads (Imports w) m last → AwaitAt w last → Awaits w m
reach_awaits w m last l e =
    let a = await_normal (module_at w last) e in
    record { normal = leads_normal w m last l (a.0, a.1); last = last; leads = l; waiting = a }

pub awaits_at : (w : Meaning) (m : ℕ) (a : Awaits w m) → AwaitAt w a.last
awaits_at w m a = ap has_await a.waiting.1 ∙ a.waiting.2

-- where imports lead stays among the modules
pub imports_within : (w : Meaning) → Targets w → (m last : ℕ) → m < count_of w → Leads (Imports w) m last → last < count_of w
imports_within w targets m last h here = h
imports_within w targets m last h (along {a} {b} s l) = targets a b (s.0, _, s.1)

module _ (w : Meaning) (starts facts : List YesNo)
    (enough : count_of w ≤ length starts) (targets : Targets w)
    (filled : Filled (count_of w) (AwaitAt w) starts)
    (carried : Carried plain_no either AwaitWay w starts facts) where
  pub facts_say : Filled (count_of w) (Awaits w) facts
  facts_say m h = (
    λ e.
        let f = carried_from AwaitWay w starts facts carried m (omega arith) e in
        let l = leads_as (awaits_to w) f.1 in
        reach_awaits w m f.0 l ((filled f.0 (imports_within w targets m f.0 h l)).0 f.2),
    λ a. carried_to AwaitWay w starts facts carried a.last m (omega arith) (leads_as (awaits_from w) a.leads)
        ((filled a.last (imports_within w targets m a.last h a.leads)).1 (awaits_at w m a)),
  )

module _ (w : Meaning) (facts : List YesNo) (rows new : List MarkRow) (filled : Filled (count_of w) (Awaits w) facts) (written : Written (count_of w) (AwaitingRow facts) rows new) where
  pub await_did : (o : LinkOptions) → AwaitDid w o rows new
  await_did o = record {
    long = written.long;
    past = written.rest;
    rule = λ m h. ap (λ (r : MarkRow). agrees r.kind r.wrap) (written.each m h) ∙ read_agrees (row_at rows m).kind (row_at rows m).wrap;
    kind = λ m h. ap (λ (r : MarkRow). r.kind) (written.each m h);
    wrap = λ m h. raised_stays (ap (λ (r : MarkRow). is_wrapped (read_wrap r.kind r.wrap)) (written.each m h) ∙ ap is_wrapped (read_again (row_at rows m).kind (row_at rows m).wrap));
    required = λ m h. raised_stays (ap (λ (r : MarkRow). r.required) (written.each m h));
    dynamic = λ m h. raised_stays (ap (λ (r : MarkRow). r.dynamic) (written.each m h));
    awaiting = λ m h. raised_or (row_at rows m).awaiting (flag facts m) (row_at new m).awaiting (ap (λ (r : MarkRow). r.awaiting) (written.each m h)) (filled m h);
    entries = λ m h. ap (λ (r : MarkRow). r.entries) (written.each m h);
  }
