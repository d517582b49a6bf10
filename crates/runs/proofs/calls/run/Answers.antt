use Rattle.std.proofs.Common.{◌≤◌, length, is_ok, None, Ok, sym, refl, ap, ◌∙◌, subst, arith}
use Rattle.faults.specs.Faults.{Verdict}
use Rattle.link.specs.declared.stage.Call.TheVariants.{Begin}
use Rattle.settled.specs.Runs.{call_at}
use Rattle.runs.specs.Made.{At, places_of, MadeOf, RunDid}
use Rattle.runs.proofs.Orders.{begin_opens, call_lawful, run_settles}
use Rattle.runs.proofs.Steps.{shortest_as, turned_none, turned_more, turned_all}
use Rattle.runs.proofs.calls.run.Goals as goal

pub loop-call-init : goal.loop-call-init
loop-call-init g c = record { turned = turned_none _ _ _ _ _; sizes = record { facts = refl; flags = refl; sets = refl; ends = refl; found = refl; arrows = refl } }

pub loop-call-preserved : goal.loop-call-preserved
loop-call-preserved g c =
    let w = g.S.ModuleSource.meaning c.args.source.now in
    let sizes = c.loop-call.invariant.sizes in
    let places = shortest_as sizes.facts sizes.flags sizes.sets sizes.ends sizes.found in
    let asked = call_at c.loop-call.calls c.loop-call.call-index in
    let old : At = record { link = c.loop-call.link; marks = c.loop-call.marks; list = c.loop-call.list } in
    let new : At = record { link = c.make-answer.new.link; marks = c.make-answer.new.marks; list = c.make-answer.new.list } in
    let with-arrows = subst (λ n. MadeOf w n (places_of c.loop-call.work) asked c.make-answer.result old new) sizes.arrows c.make-answer.ensures in
    let made = subst (λ n. MadeOf w (length c.args.work.now.arrows.now) n asked c.make-answer.result old new) places with-arrows in
    record {
      turned = turned_more w (length c.args.work.now.arrows.now) (places_of c.args.work.now) c.args.calls.now c.loop-call.calls c.loop-call.call-index _ old new c.make-answer.result (omega (arith, c.loop-call.auto.calls, c.loop-call-test.true)) c.loop-call.invariant.turned made;
      sizes = record {
        facts = c.make-answer.auto.facts ∙ sizes.facts;
        flags = c.make-answer.auto.flags ∙ sizes.flags;
        sets = c.make-answer.auto.sets ∙ sizes.sets;
        ends = c.make-answer.auto.ends ∙ sizes.ends;
        found = c.make-answer.auto.found ∙ sizes.found;
        arrows = c.make-answer.auto.arrows ∙ sizes.arrows;
      };
    }

pub returns : goal.returns
returns g c =
    let w = g.S.ModuleSource.meaning c.args.source.now in
    let o = c.args.options in
    let arrows = length c.args.work.now.arrows.now in
    let places = places_of c.args.work.now in
    let began = c.in_ok-begin.ensures in
    let first : At = record { link = c.begin.new.self; marks = c.begin.new.marks; list = c.args.list.now } in
    let old : At = record { link = c.args.link.now; marks = c.args.marks.now; list = c.args.list.now } in
    let last : At = record { link = c.loop-call.link; marks = c.loop-call.marks; list = c.loop-call.list } in
    let all : length c.loop-call.calls ≤ c.loop-call.call-index = omega (arith, c.loop-call.auto.calls, c.loop-call-test.false) in
    let did : RunDid w o arrows places c.args.calls.now c.loop-call.calls old last = record {
      first = first;
      stage = began.stage ∙ begin_opens c.args.link.now.stage;
      options = began.options;
      marks = began.marks;
      list = refl;
      calls = turned_all w arrows places c.args.calls.now c.loop-call.calls c.loop-call.call-index first last all c.loop-call.invariant.turned;
    } in
    let lawful = call_lawful Begin c.args.link.now.stage o w (record { marks = length c.args.marks.now; work = None }) (Ok tt) (sym (ap (λ (v : Verdict). is_ok v) began.answer)) in
    record { answer = began.answer; calls = did; settles = run_settles w o arrows places c.args.calls.now c.loop-call.calls old last lawful did; sizes = c.loop-call.invariant.sizes }
