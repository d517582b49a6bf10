use Rattle.std.proofs.Common.{◌≡◌, ◌<◌, sym, ◌∙◌, arith}
use Rattle.source.specs.Meaning.{count_of, module_at}
use Rattle.marks.specs.Passes.{is_entry}
use Rattle.entries.proofs.Ranks.{rank_yes, rank_no}
use Rattle.entries.proofs.reach.count_entries.Goals as goal
use Rattle.entries.proofs.reach.count_entries.Goals.{then-is_entry, else-is_entry}

pub loop-m-preserved : goal.loop-m-preserved
loop-m-preserved g c =
    let w = g.S.ModuleSource.meaning c.args.source.now in
    let m = c.loop-m.m in
    let h : m < count_of w = omega (arith, c.module_count-m-end.ensures) in
    let tested : c.is_entry.result ≡ is_entry (module_at w m) = c.is_entry.ensures in
    elim c.if-is_entry.branch [
      | then-is_entry v ↦ (omega (arith, v.n-is, c.loop-m.invariant.0, rank_yes w m h (sym tested ∙ v.if-is_entry.true)), omega (arith, v.n-is, c.loop-m.invariant.1))
      | else-is_entry v ↦ (omega (arith, v.n-is, c.loop-m.invariant.0, rank_no w m h (sym tested ∙ v.if-is_entry.false)), omega (arith, v.n-is, c.loop-m.invariant.1))
    ]
