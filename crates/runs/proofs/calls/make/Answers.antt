use Rattle.std.proofs.Common.{◌≡◌, ℕ, ◌≤◌, min, ◌++◌, length, take, drop, subst, arith}
use Rattle.std.proofs.lemmas.List.{length-take}
use Rattle.runs.specs.Made.{At, shortest, lent_to, Made}
use Rattle.runs.proofs.Steps.{made_longer}
use Rattle.runs.proofs.calls.make.Goals as goal

pub returns : goal.returns
returns g c =
    let w = g.S.ModuleSource.meaning c.args.source.now in
    let pass = c.args.asked.pass in
    let marks = length c.args.marks.now in
    let list = c.args.list.now in
    let room = c.min-room.result in
    let places = shortest (length c.args.facts.now) (length c.args.flags.now) (length c.args.sets.now) (length c.args.ends.now) (length c.args.found.now) in
    let fits : room ≤ length list = omega (arith, c.min-room.ensures) in
    let steps_is : length (take c.min-steps.result c.args.arrows.now) ≡ min c.args.asked.arrows (length c.args.arrows.now) = omega (arith, length-take c.min-steps.result c.args.arrows.now, c.min-steps.ensures) in
    let places_is : length (take c.min-places.result c.args.facts.now) ≡ min c.args.asked.places places = omega (arith, length-take c.min-places.result c.args.facts.now, c.min-places.ensures, c.shortest.ensures) in
    let room_is : length (take room list) ≡ room = omega (arith, length-take room list) in
    let wide : room ≡ min c.args.asked.results (length list) = omega (arith, c.min-room.ensures) in
    let old : At = record { link = c.args.link.now; marks = c.args.marks.now; list = take room list } in
    let new : At = record { link = c.ask.new.link; marks = c.ask.new.marks; list = c.ask.new.list } in
    let with-steps = subst (λ (k : ℕ). Made w pass (lent_to pass marks k (length (take c.min-places.result c.args.facts.now))) (length (take room list)) c.ask.result old new) steps_is c.ask.ensures in
    let with-places = subst (λ (k : ℕ). Made w pass (lent_to pass marks (min c.args.asked.arrows (length c.args.arrows.now)) k) (length (take room list)) c.ask.result old new) places_is with-steps in
    let with-room = subst (λ (k : ℕ). Made w pass (lent_to pass marks (min c.args.asked.arrows (length c.args.arrows.now)) (min c.args.asked.places places)) k c.ask.result old new) room_is with-places in
    let longer = made_longer w c.ask.result c.args.link.now c.ask.new.link c.args.marks.now c.ask.new.marks room list c.ask.new.list fits pass _ with-room in
    subst (λ (k : ℕ). Made w pass (lent_to pass marks (min c.args.asked.arrows (length c.args.arrows.now)) (min c.args.asked.places places)) k c.ask.result (record { link = c.args.link.now; marks = c.args.marks.now; list = list }) (record { link = c.ask.new.link; marks = c.ask.new.marks; list = c.ask.new.list ++ drop room list })) wide longer
