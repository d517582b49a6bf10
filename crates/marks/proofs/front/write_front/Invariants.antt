use Rattle.std.proofs.Common.{◌≡◌, ℕ, ◌<◌, ◌≤◌, slice_index_or}
use Rattle.marks.proofs.front.write_front.Given as goal

abbrev pub invariant-loop-m : goal.invariant-loop-m
invariant-loop-m g l = record {
  each : (k : ℕ) (d : _) → k < l.m → goal.F-post g l.rule k (slice_index_or l.initial.items k d) (slice_index_or l.items k d);
  rest : (k : ℕ) (d : _) → l.m ≤ k → slice_index_or l.items k d ≡ slice_index_or l.initial.items k d;
}
