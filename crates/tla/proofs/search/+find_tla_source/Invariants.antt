use Rattle.std.proofs.Common.{ℕ, ◌≤◌, List, drop, Option}
use Rattle.spread.specs.declared.yes_no.YesNo.{YesNo}
use Rattle.tla.specs.Search.{imports_of, Searches}
use Rattle.tla.proofs.Searched.{fresh}
use Rattle.tla.proofs.search.+find_tla_source.Given as goal

abbrev pub decreases-find_tla_source : goal.decreases-find_tla_source
decreases-find_tla_source g l = fresh l.entered.now

-- whatever a search of the imports that are left comes to, a search of all of them does
abbrev pub invariant-loop-arrow : goal.invariant-loop-arrow
invariant-loop-arrow g l =
    let w = g.S.ModuleSource.meaning l.imports.source.now in
    (fresh l.entered ≤ fresh l.initial.entered) × ((r : Option ℕ) (last : List YesNo) → Searches w l.entered (drop l.arrow-index (imports_of w l.m)) r last → Searches w l.initial.entered (imports_of w l.m) r last)
