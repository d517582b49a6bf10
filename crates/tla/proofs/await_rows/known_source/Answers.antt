use Rattle.std.proofs.Common.{sym, subst}
use Rattle.tla.specs.Search.{SourceOf, Told}
use Rattle.tla.specs.Once.{WaitsFor}
use Rattle.tla.proofs.Knowns.{known_more}
use Rattle.tla.proofs.await_rows.known_source.Goals as goal

pub returns-in-Some : goal.returns-in-Some
returns-in-Some g c = record { source = c.requires.known c.args.t c.in-Some.s c.requires.target (sym c.in-Some.ensures); known = c.requires.known }

pub returns : goal.returns
returns g c =
    let w = g.S.ModuleSource.meaning c.args.imports.now.source.now in
    let t = c.args.t in
    let s = c.unwrap-s.result in
    let here : WaitsFor w t s = record { found = subst (SourceOf w t) c.unwrap-s.ensures c.tla_source.ensures.search; reached = subst (Told w t) c.unwrap-s.ensures c.tla_source.ensures.told } in
    record { source = here; known = known_more w _ _ t s here c.keep.ensures c.requires.known }
