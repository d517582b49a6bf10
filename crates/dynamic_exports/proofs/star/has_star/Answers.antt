use Rattle.std.proofs.Common.{arith}
use mathlib.Core.Bool.{false≢true}
use Rattle.marks.proofs.Records.{star_in}
use Rattle.dynamic_exports.proofs.star.has_star.Goals as goal

pub returns : goal.returns
returns g c =
    let w = g.S.ModuleSource.meaning c.args.source.now in (
      λ e. absurd (false≢true e),
      λ h. absurd (c.loop-k.invariant h.1.0 (let lt = star_in w c.args.m h.1.0 h.1.1 in omega (arith, c.record_count-k-end.ensures)) h.1.1),
    )
