use Rattle.std.proofs.Common.{length, is_ok, None, Ok, sym, refl, ap, subst}
use Rattle.faults.specs.Faults.{Verdict}
use Rattle.link.specs.declared.stage.Call.TheVariants.{Begin}
use Rattle.runs.specs.Made.{At, places_of}
use Rattle.runs.specs.Ended.{EndDid, EndLeaves}
use Rattle.runs.proofs.Orders.{call_lawful}
use Rattle.runs.proofs.Ends.{end_settles}
use Rattle.runs.proofs.finish.run_to_end.Goals as goal

pub returns : goal.returns
returns g c =
    let w = g.S.ModuleSource.meaning c.args.source.now in
    let o = c.args.options in
    let arrows = length c.args.work.now.arrows.now in
    let places = places_of c.args.work.now in
    let ran = c.in_ok-run.ensures in
    let old : At = record { link = c.args.link.now; marks = c.args.marks.now; list = c.args.list.now } in
    let last : At = record { link = c.run.new.link; marks = c.run.new.marks; list = c.run.new.list } in
    let new : At = record { link = c.finish.new.self; marks = c.finish.new.marks; list = c.run.new.list } in
    let did : EndDid c.finish.result w o arrows places c.args.calls.now c.run.new.calls old new c.args.wrappers.now c.finish.new.list = record {
      last = last;
      calls = ran.calls;
      finish = c.finish.ensures.answer;
      stage = c.finish.ensures.stage;
      options = c.finish.ensures.options;
      marks = c.finish.ensures.marks;
      list = refl;
      written = c.finish.ensures.list;
    } in
    let lawful = call_lawful Begin c.args.link.now.stage o w (record { marks = length c.args.marks.now; work = None }) (Ok tt) (sym (ap (λ (v : Verdict). is_ok v) ran.answer)) in
    record {
      leaves = subst (λ (v : Verdict). EndLeaves v c.finish.result w o arrows places c.args.calls.now c.run.new.calls old new c.args.wrappers.now c.finish.new.list) ran.answer did;
      sizes = ran.sizes;
      settled = end_settles c.finish.result w o arrows places c.args.calls.now c.run.new.calls old new c.args.wrappers.now c.finish.new.list lawful did;
    }
