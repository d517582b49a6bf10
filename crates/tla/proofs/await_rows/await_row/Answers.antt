use Rattle.std.proofs.Common.{◌<◌, arith, rules}
use Rattle.source.specs.Meaning.{count_of}
use Rattle.tla.proofs.Whole.{imports_within}
use Rattle.tla.proofs.await_rows.await_row.Goals as goal

pub overflow_cast-result-3 : goal.overflow_cast-result-3
overflow_cast-result-3 g c =
    let w = g.S.ModuleSource.meaning c.args.imports.now.source.now in
    let s = c.known_source-found.result in
    let lt : s < count_of w = imports_within w (g.met.S.Linkable.targets c.args.imports.now.source.now) c.args.t s c.requires.target c.known_source-found.ensures.source.reached.1 in
    let h : s < 4096 = omega (arith, lt, g.met.S.Linkable.small c.args.imports.now.source.now) in
    search rules
