use Rattle.std.proofs.Common.{rules, arith}
use Rattle.spread.specs.Kinds.{plain_no}
use Rattle.tla.proofs.compute_tla.own_awaits.Goals as goal

pub returns : goal.returns
returns g c m h = let e = c.write_front.ensures.each m plain_no (omega (arith, h, c.module_count.ensures)) in search rules
