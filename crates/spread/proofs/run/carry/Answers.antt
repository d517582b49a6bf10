use Rattle.std.proofs.lemmas.List.{get_or_read}
use Rattle.std.proofs.lemmas.Bool.{not-false}
use Rattle.spread.proofs.Steps.{carried_is, carried_same}
use Rattle.spread.proofs.run.carry.Goals as goal

pub returns : goal.returns
returns g c =
    let xs = c.args.facts.now in
    let a = c.args.arrow in
    let z = g.F.Fact.zero in
    let old = get_or_read xs a.to c.index-facts-to.result c.requires.1 c.index-facts-to.is z in
    let from = get_or_read xs a.from c.index-facts-arrow.result c.requires.0 c.index-facts-arrow.is z in
    record {
      writes = carried_is z g.F.Fact.join xs a c.index-facts-to.result c.index-facts-arrow.result c.joined-new.result old from c.joined-new.ensures;
      still = λ e. carried_same z g.F.Fact.join xs a c.index-facts-to.result c.joined-new.result old (c.same.ensures.sound (not-false _ e));
    }
