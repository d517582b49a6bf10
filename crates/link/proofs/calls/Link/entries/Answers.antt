use Rattle.std.proofs.Common.{◌<◌, ◌≤◌, length, Some, Err, sym, refl, ap, ◌∙◌, arith}
use Rattle.std.proofs.lemmas.Bool.{le-ltb, lt-ltb}
use Rattle.std.proofs.lemmas.Result.{err_from_is_err_and}
use Rattle.faults.specs.declared.Refusal.TheVariants.{TooManyEntries}
use Rattle.faults.proofs.Checks.{passes, refuses}
use Rattle.source.specs.Meaning.{count_of}
use Rattle.marks.specs.Passes.{rank}
use Rattle.lawful.specs.declared.check.Lent.{Lent}
use Rattle.lawful.specs.Lawful.{link_fault}
use Rattle.lawful.proofs.Told.{small, marked, worked, targeted}
use Rattle.link.specs.declared.stage.Call.TheVariants.{Entries}
use Rattle.link.specs.Calls.{entries_verdict}
use Rattle.link.proofs.Accepts.{own_decides, moves_on, refused_anyway}
use Rattle.link.proofs.calls.Link.entries.Goals as goal

pub returns-in_err-stage-clause-answer : goal.returns-in_err-stage-clause-answer
returns-in_err-stage-clause-answer g c =
    let p = err_from_is_err_and c.from_residual.result c.from_residual.ensures.1 in
    p.1 ∙ ap Err p.2 ∙ sym (refused_anyway _ _ (entries_verdict (g.S.ModuleSource.meaning c.args.source.now)) _ c.in_err-stage.ensures)

pub determine_entries-requires : goal.determine_entries-requires
determine_entries-requires g c =
    let w = g.S.ModuleSource.meaning c.args.source.now in
    let o = c.args.self.now.options in
    let lent : Lent = record { marks = length c.args.marks.now; work = Some (length c.args.arrows.now, length c.args.facts.now) } in
    let ok = c.in_ok-stage.ensures.1 in
    let work = worked o w lent ok (length c.args.arrows.now) (length c.args.facts.now) refl in
    record {
      small = small o w lent ok;
      few = omega (arith, c.count_entries.ensures);
      rows = marked o w lent ok;
      facts = work.1;
      room = work.0;
      targets = targeted o w lent ok;
    }

pub returns-then-count_entries-gt64-clause-answer : goal.returns-then-count_entries-gt64-clause-answer
returns-then-count_entries-gt64-clause-answer g c =
    let w = g.S.ModuleSource.meaning c.args.source.now in
    let link = c.args.self.now in
    let lent : Lent = record { marks = length c.args.marks.now; work = Some (length c.args.arrows.now, length c.args.facts.now) } in
    let many : 64 < rank w (count_of w) = omega (arith, c.count_entries.ensures) in
    ap Err c.refused.ensures
    ∙ sym (own_decides Entries link.stage c.in_ok-stage.stage c.in_ok-stage.ensures.0 link.options w lent (entries_verdict w) c.in_ok-stage.ensures.1 ∙ refuses _ (link_fault TooManyEntries 0 0) (lt-ltb 64 (rank w (count_of w)) many))

pub returns : goal.returns
returns g c =
    let w = g.S.ModuleSource.meaning c.args.source.now in
    let link = c.args.self.now in
    let e = c.in_ok-stage.ensures.0 in
    let lent : Lent = record { marks = length c.args.marks.now; work = Some (length c.args.arrows.now, length c.args.facts.now) } in
    let few : rank w (count_of w) ≤ 64 = omega (arith, c.count_entries.ensures) in
    record {
      answer = sym (own_decides Entries link.stage c.in_ok-stage.stage e link.options w lent (entries_verdict w) c.in_ok-stage.ensures.1 ∙ passes _ (link_fault TooManyEntries 0 0) (le-ltb 64 (rank w (count_of w)) few));
      stage = moves_on Entries link.stage c.in_ok-stage.stage e;
      options = refl;
      marks = c.determine_entries.ensures link.options;
    }
