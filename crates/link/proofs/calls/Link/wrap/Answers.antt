use Rattle.std.proofs.Common.{ℕ, length, Some, Ok, Err, sym, refl, ap, ◌∙◌, arith}
use Rattle.std.proofs.lemmas.Result.{err_from_is_err_and}
use Rattle.lawful.specs.declared.check.Lent.{Lent}
use Rattle.lawful.proofs.Told.{small, marked, worked, targeted}
use Rattle.link.specs.declared.stage.Call.TheVariants.{Wrap}
use Rattle.link.specs.Calls.{call_verdict}
use Rattle.link.proofs.Accepts.{own_decides, moves_on}
use Rattle.link.proofs.calls.Link.wrap.Goals as goal

pub returns-in_err-stage-clause-answer : goal.returns-in_err-stage-clause-answer
returns-in_err-stage-clause-answer g c =
    let w = g.S.ModuleSource.meaning c.args.source.now in
    let link = c.args.self.now in
    let p = err_from_is_err_and c.from_residual.result c.from_residual.ensures.1 in
    p.1 ∙ ap Err p.2 ∙ sym (c.in_err-stage.ensures)
    ∙ ap (λ (n : ℕ). call_verdict Wrap link.stage link.options w (record { marks = length c.args.marks.now; work = Some (length c.args.arrows.now, n) }) (Ok tt)) c.min.ensures

pub wrap_modules-requires : goal.wrap_modules-requires
wrap_modules-requires g c =
    let w = g.S.ModuleSource.meaning c.args.source.now in
    let o = c.args.self.now.options in
    let lent : Lent = record { marks = length c.args.marks.now; work = Some (length c.args.arrows.now, c.min.result) } in
    let ok = c.in_ok-stage.ensures.1 in
    let work = worked o w lent ok (length c.args.arrows.now) c.min.result refl in
    record {
      small = small o w lent ok;
      rows = marked o w lent ok;
      facts = omega (arith, work.1, c.min.ensures);
      flags = omega (arith, work.1, c.min.ensures);
      room = work.0;
      targets = targeted o w lent ok;
    }

pub returns : goal.returns
returns g c =
    let w = g.S.ModuleSource.meaning c.args.source.now in
    let link = c.args.self.now in
    let e = c.in_ok-stage.ensures.0 in
    let lent : ℕ → Lent = λ other. record { marks = length c.args.marks.now; work = Some (length c.args.arrows.now, other) } in
    record {
      answer = sym (ap (λ (n : ℕ). call_verdict Wrap link.stage link.options w (lent n) (Ok tt)) (sym c.min.ensures) ∙ own_decides Wrap link.stage c.in_ok-stage.stage e link.options w (lent c.min.result) (Ok tt) c.in_ok-stage.ensures.1);
      stage = moves_on Wrap link.stage c.in_ok-stage.stage e;
      options = refl;
      marks = c.wrap_modules.ensures link.options;
    }
