use Rattle.tla.specs.Search.{imports_before}
use Rattle.tla.proofs.Copies.{Copied, so_far}
use Rattle.tla.proofs.Ended.{Ended}
use Rattle.tla.proofs.imports.copy_imports.Given as goal

abbrev pub invariant-loop-m : goal.invariant-loop-m
invariant-loop-m g l =
    let w = g.S.ModuleSource.meaning l.source in
    Copied (imports_before w l.m) l.arrows l.n × Ended w l.ends l.m

abbrev pub invariant-loop-k : goal.invariant-loop-k
invariant-loop-k g l = Copied (so_far (g.S.ModuleSource.meaning l.source) l.m l.k) l.arrows l.n
