use Rattle.std.proofs.Common.{◌≡◌, ℕ, ◌<◌, true}
use Rattle.source.specs.Meaning.{record_at}
use Rattle.dynamic_exports.proofs.star.has_star.Given as goal

abbrev pub invariant-loop-k : goal.invariant-loop-k
invariant-loop-k g l = (j : ℕ) → j < l.k → (record_at (g.S.ModuleSource.meaning l.source) l.m j).star ≡ true → ⊥
