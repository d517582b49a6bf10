use Rattle.std.proofs.Common.{◌≤◌, length, arith}
use Rattle.source.specs.Meaning.{count_of}
use Rattle.tla.specs.Search.{SourceOf}
use Rattle.tla.proofs.Only.{only_one}
use Rattle.tla.proofs.Searched.{told}
use Rattle.tla.proofs.search.tla_source.Goals as goal

pub returns : goal.returns
returns g c =
    let source = c.args.imports.now.source.now in
    let w = g.S.ModuleSource.meaning source in
    let targets = g.met.S.Linkable.targets source in
    let start = c.clear.new.flags in
    let last = c.find_tla_source.new.entered in
    let long : count_of w ≤ length start = omega (arith, c.requires.entered, c.clear.ensures.long) in
    let found : SourceOf w c.args.m c.find_tla_source.result = record { start = start; last = last; long = long; clear = c.clear.ensures.clear; searches = c.find_tla_source.ensures } in
    record {
      search = found;
      told = told w (g.S.ModuleSource.proper source) targets start last c.args.m long c.requires.place c.clear.ensures.clear c.find_tla_source.result c.find_tla_source.ensures;
      only = λ other o. only_one w (g.S.ModuleSource.proper source) targets c.args.m c.requires.place other c.find_tla_source.result o found;
    }
