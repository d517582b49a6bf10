use Rattle.runs.proofs.Alike.{one_run}
use Rattle.runs.proofs.calls.one_run.Goals as goal

pub returns : goal.returns
returns c = one_run
