use Rattle.std.proofs.Common.{◌≡◌, ℕ, ◌≤◌, min, length, Some, Ok, Err, Result, sym, refl, ap, ◌∙◌, subst, arith}
use Rattle.std.proofs.lemmas.Bool.{le-ltb, lt-ltb}
use Rattle.std.proofs.lemmas.Result.{err_from_is_err_and}
use Rattle.faults.specs.declared.Refusal.TheVariants.{ResultsTooShort}
use Rattle.faults.specs.declared.Fault.{Fault}
use Rattle.faults.specs.Faults.{Verdict}
use Rattle.ways.specs.Targets.{flag}
use Rattle.faults.proofs.Checks.{passes, refuses}
use Rattle.source.specs.Meaning.{Meaning}
use Rattle.lawful.specs.declared.check.Lent.{Lent}
use Rattle.lawful.specs.Lawful.{link_fault}
use Rattle.lawful.proofs.Told.{small, few, worked, targeted}
use Rattle.tla.specs.Rows.{RowCount}
use Rattle.link.specs.declared.stage.Call.TheVariants.{Await}
use Rattle.link.specs.Calls.{call_verdict, counted, AwaitAnswer}
use Rattle.link.proofs.Accepts.{own_decides, moves_on}
use Rattle.link.proofs.calls.Link.awaits.Goals as goal
use Rattle.link.proofs.calls.Link.awaits.Goals.{Start}

-- the stage, source and slices decide, or the call's own check does
module _ (g : _) (c : Start g) where
  abbrev w : Meaning
  w = g.S.ModuleSource.meaning c.args.source.now

  abbrev verdict_at : ℕ → Verdict
  verdict_at n = call_verdict Await c.args.self.now.stage c.args.self.now.options w (record { marks = length c.args.marks.now; work = Some (length c.args.arrows.now, n) }) (Ok tt)

  abbrev least : ℕ
  least = min (min (length c.args.facts.now) (length c.args.entered.now)) (min (length c.args.ends.now) (length c.args.found.now))

  refused_as : (v : Verdict) (f : Fault) (room : ℕ) (answer : Result ℕ Fault) → v ≡ Err f → answer ≡ Err f → AwaitAnswer v w room answer
  refused_as v f room answer e is = subst (λ (x : Verdict). AwaitAnswer x w room answer) (sym e) is

pub returns-in_err-stage-clause-answer : goal.returns-in_err-stage-clause-answer
returns-in_err-stage-clause-answer g c =
    let start = (goal.at.returns-in_err-stage-clause-answer g c).Start in
    let p = err_from_is_err_and c.from_residual.result c.from_residual.ensures.1 in
    let shortest : c.min-shortest.result ≡ least g start = cc in
    refused_as g start _ _ (length c.args.list.now) c.from_residual.result (ap (verdict_at g start) (sym shortest) ∙ c.in_err-stage.ensures) (p.1 ∙ ap Err p.2)

pub find_awaiting-requires : goal.find_awaiting-requires
find_awaiting-requires g c =
    let w = g.S.ModuleSource.meaning c.args.source.now in
    let o = c.args.self.now.options in
    let lent : Lent = record { marks = length c.args.marks.now; work = Some (length c.args.arrows.now, c.min-shortest.result) } in
    let ok = c.in_ok-stage.ensures.1 in
    let work = worked o w lent ok (length c.args.arrows.now) c.min-shortest.result refl in
    record { small = small o w lent ok; facts = omega (arith, work.1, c.min-shortest.ensures); room = work.0; targets = targeted o w lent ok }

pub count_await_rows-requires : goal.count_await_rows-requires
count_await_rows-requires g c =
    let w = g.S.ModuleSource.meaning c.args.source.now in
    let o = c.args.self.now.options in
    let lent : Lent = record { marks = length c.args.marks.now; work = Some (length c.args.arrows.now, c.min-shortest.result) } in
    let ok = c.in_ok-stage.ensures.1 in
    let work = worked o w lent ok (length c.args.arrows.now) c.min-shortest.result refl in
    record {
      records = few o w lent ok;
      facts = omega (arith, work.1, c.min-shortest.ensures, c.find_awaiting.auto.facts);
      waits = c.find_awaiting.ensures;
      targets = targeted o w lent ok;
    }

pub returns-then-list-count_await_rows-clause-answer : goal.returns-then-list-count_await_rows-clause-answer
returns-then-list-count_await_rows-clause-answer g c =
    let start = (goal.at.returns-then-list-count_await_rows-clause-answer g c).Start in
    let link = c.args.self.now in
    let n = c.count_await_rows.result in
    let list = length c.args.list.now in
    let shortest : c.min-shortest.result ≡ least g start = cc in
    let verdict = ap (verdict_at g start) (sym shortest) ∙ own_decides Await link.stage c.in_ok-stage.stage c.in_ok-stage.ensures.0 link.options (w g start) (record { marks = length c.args.marks.now; work = Some (length c.args.arrows.now, c.min-shortest.result) }) (Ok tt) c.in_ok-stage.ensures.1 in
    subst (λ (v : Verdict). AwaitAnswer v (w g start) list (Err c.refused.result)) (sym verdict) (record {
      rows = n;
      counts = (flag c.find_awaiting.new.facts, c.find_awaiting.ensures, c.count_await_rows.ensures.count);
      only = c.count_await_rows.ensures.only;
      is = ap Err c.refused.ensures ∙ sym (ap (λ (v : Verdict). counted v n) (refuses _ (link_fault ResultsTooShort 0 0) (lt-ltb list n c.if-list-count_await_rows.true)));
    })

pub write_await_rows_once-count-requires : goal.write_await_rows_once-count-requires
write_await_rows_once-count-requires g c =
    let w = g.S.ModuleSource.meaning c.args.source.now in
    let o = c.args.self.now.options in
    let lent : Lent = record { marks = length c.args.marks.now; work = Some (length c.args.arrows.now, c.min-shortest.result) } in
    let ok = c.in_ok-stage.ensures.1 in
    let work = worked o w lent ok (length c.args.arrows.now) c.min-shortest.result refl in
    record {
      small = small o w lent ok;
      records = few o w lent ok;
      facts = omega (arith, work.1, c.min-shortest.ensures, c.find_awaiting.auto.facts);
      waits = c.find_awaiting.ensures;
      ends = omega (arith, work.1, c.min-shortest.ensures);
      arrows = omega (arith, work.0, c.find_awaiting.auto.arrows);
      entered = omega (arith, work.1, c.min-shortest.ensures);
      found = omega (arith, work.1, c.min-shortest.ensures);
      targets = targeted o w lent ok;
      room = omega (arith, c.if-list-count_await_rows.false, c.count_await_rows.ensures.count);
    }

pub returns : goal.returns
returns g c =
    let start = (goal.at.returns g c).Start in
    let link = c.args.self.now in
    let n = c.write_await_rows_once-count.result in
    let list = length c.args.list.now in
    let rows = c.write_await_rows_once-count.ensures in
    let counts : RowCount (g.S.ModuleSource.meaning c.args.source.now) n = (rows.waits, rows.when, rows.count) in
    let only = c.count_await_rows.ensures.only in
    let fits : n ≤ list = omega (arith, only n counts, c.if-list-count_await_rows.false) in
    let shortest : c.min-shortest.result ≡ least g start = cc in
    let verdict = ap (verdict_at g start) (sym shortest) ∙ own_decides Await link.stage c.in_ok-stage.stage c.in_ok-stage.ensures.0 link.options (w g start) (record { marks = length c.args.marks.now; work = Some (length c.args.arrows.now, c.min-shortest.result) }) (Ok tt) c.in_ok-stage.ensures.1 in
    record {
      answer = subst (λ (v : Verdict). AwaitAnswer v (w g start) list (Ok n)) (sym verdict) (record {
        rows = n;
        counts = counts;
        only = λ other o. only other o ∙ sym (only n counts);
        is = sym (ap (λ (v : Verdict). counted v n) (passes _ (link_fault ResultsTooShort 0 0) (le-ltb list n fits)));
      });
      stage = moves_on Await link.stage c.in_ok-stage.stage c.in_ok-stage.ensures.0;
      options = refl;
      marks = c.mark_awaiting.ensures link.options;
      list = rows;
    }
