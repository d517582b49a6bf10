use Rattle.std.proofs.Common.{rules}
use Rattle.interop.specs.Interop.{written}
use Rattle.interop.proofs.external_import_interop.Question.written_uses.Goals as goal

pub returns : goal.returns
returns g c = c.joined_uses.ensures (written (g.S.ModuleSource.meaning c.args.self.now.source.now)) (λ row u is. search rules)
