use Rattle.std.proofs.Common.{sym, ap}
use Rattle.marks.specs.Names.{helper_text}
use Rattle.marks.proofs.rows.Helper.text.Goals as goal

pub returns-in-CommonJsMin : goal.returns-in-CommonJsMin
returns-in-CommonJsMin c = ap helper_text (sym c.in-CommonJsMin.is)
