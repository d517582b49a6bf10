use Rattle.std.proofs.Common.{◌≡◌, ◌-◌, length, take, arith}
use Rattle.ways.proofs.Turns.{leads_just, all_inside, spread_accepted}
use Rattle.ways.proofs.spread_linkable.Goals as goal

pub returns : goal.returns
returns g c =
    let w = g.S.ModuleSource.meaning c.args.source.now in
    let n = c.copy_arrows-n.result in
    let copied = c.copy_arrows-n.new.arrows in
    let same : n - 0 ≡ n = omega arith in
    record {
      rows = take (n - 0) copied;
      spread = spread_accepted g.F.Fact.zero g.F.Fact.join (take (n - 0) copied) c.args.facts.now c.spread.new.facts c.spread.result c.spread.ensures.leaves
          (all_inside c.args.way w copied n c.copy_arrows-n.ensures (n - 0) same (length c.args.facts.now) c.requires.facts (g.met.S.Linkable.targets c.args.source.now));
      leads = leads_just c.args.way w copied n c.copy_arrows-n.ensures (n - 0) same;
    }
