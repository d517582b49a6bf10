use Rattle.std.proofs.Common.{arith}
use Rattle.tla.proofs.EndedSegments.{start_first, start_later}
use Rattle.tla.proofs.imports.Imports.first.Goals as goal

pub returns-then-m-eq0 : goal.returns-then-m-eq0
returns-then-m-eq0 g c = start_first c.args.self.now.ends.now c.args.m c.if-m-eq0.true

pub returns-else-m-eq0 : goal.returns-else-m-eq0
returns-else-m-eq0 g c = start_later c.args.self.now.ends.now c.args.m (omega arith)
