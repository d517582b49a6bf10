use Rattle.std.proofs.Common.{◌≡◌, length}
use Rattle.spread_tests.proofs.tests.a_circle_of_64_entries_is_full_everywhere.Given as goal

abbrev pub invariant-loop-rank : goal.invariant-loop-rank
invariant-loop-rank g l = (length l.facts ≡ 64) × (length l.arrows ≡ 64)
