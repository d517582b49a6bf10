use Rattle.std.proofs.Common.{subst}
use Rattle.tla.specs.Rows.{AwaitRows}
use Rattle.tla.proofs.await_rows.write_await_rows_once.Goals as goal

pub returns : goal.returns
returns g c = subst (λ s. AwaitRows (g.S.ModuleSource.meaning s) c.args.list.now c.search_rows.new.list c.search_rows.result) c.new.ensures c.search_rows.ensures
