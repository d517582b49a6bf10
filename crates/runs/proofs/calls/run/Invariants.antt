use Rattle.std.proofs.Common.{length}
use Rattle.runs.specs.Made.{SameSizes, places_of}
use Rattle.runs.proofs.Steps.{Turned}
use Rattle.runs.proofs.calls.run.Given as goal

abbrev pub invariant-loop-call : goal.invariant-loop-call
invariant-loop-call g l = record {
  turned : Turned (g.S.ModuleSource.meaning l.source) (length l.initial.work.arrows.now) (places_of l.initial.work) l.initial.calls l.calls l.call-index (record { link = l.initial.link; marks = l.initial.marks; list = l.initial.list }) (record { link = l.link; marks = l.marks; list = l.list });
  sizes : SameSizes l.initial.work l.work;
}
