use Rattle.std.proofs.Common.{rules}
use Rattle.interop.specs.Interop.{observed}
use Rattle.interop.proofs.external_import_interop.Question.observed_uses.Goals as goal

pub returns : goal.returns
returns g c = c.joined_uses.ensures (observed c.args.self.now.chunks c.args.self.now.namespace c.args.self.now.chunk) (λ row u is. search rules)
