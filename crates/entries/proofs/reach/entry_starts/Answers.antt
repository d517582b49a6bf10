use Rattle.std.proofs.Common.{◌≡◌, ◌+◌, ◌<◌, true, false, List, length, sym, ap, ◌∙◌, subst, arith}
use Rattle.std.proofs.lemmas.Bool.{cond-true, cond-false}
use Rattle.source.specs.Meaning.{count_of, module_at}
use Rattle.marks.specs.Passes.{is_entry, rank}
use Rattle.spread.specs.declared.entry_set.EntrySet.{EntrySet}
use Rattle.spread.specs.Kinds.{no_entry, single_entry}
use Rattle.entries.specs.Starts.{Ranked}
use Rattle.entries.proofs.Ranks.{rank_yes, rank_no, ranked_more}
use Rattle.entries.proofs.reach.entry_starts.Goals as goal
use Rattle.entries.proofs.reach.entry_starts.Goals.{then-is_entry, else-is_entry}

pub loop-m-preserved : goal.loop-m-preserved
loop-m-preserved g c =
    let w = g.S.ModuleSource.meaning c.args.source.now in
    let m = c.loop-m.m in
    let h : m < count_of w = omega (arith, c.module_count-m-end.ensures) in
    let lt : m < length c.loop-m.facts = omega (arith, c.requires.facts, c.loop-m.auto.facts) in
    let tested : c.is_entry.result ≡ is_entry (module_at w m) = c.is_entry.ensures in
    elim c.if-is_entry.branch [
      | then-is_entry v ↦
          (let yes : is_entry (module_at w m) ≡ true = sym tested ∙ v.if-is_entry.true in
          let starts = v.single.ensures ∙ ap single_entry c.loop-m.invariant.0 ∙ sym (cond-true _ (single_entry (rank w m)) no_entry yes) in (
            omega (arith, v.next-is, c.loop-m.invariant.0, rank_yes w m h yes),
            omega (arith, v.next-is, c.loop-m.invariant.1),
            subst (λ (facts : List EntrySet). Ranked (m + 1) w facts) (sym v.facts-is) (ranked_more w m h c.loop-m.facts v.single.result lt starts c.loop-m.invariant.2),
          ))
      | else-is_entry v ↦
          (let not : is_entry (module_at w m) ≡ false = sym tested ∙ v.if-is_entry.false in
          let starts = v.none.ensures ∙ sym (cond-false _ (single_entry (rank w m)) no_entry not) in (
            omega (arith, v.next-is, c.loop-m.invariant.0, rank_no w m h not),
            omega (arith, v.next-is, c.loop-m.invariant.1),
            subst (λ (facts : List EntrySet). Ranked (m + 1) w facts) (sym v.facts-is) (ranked_more w m h c.loop-m.facts v.none.result lt starts c.loop-m.invariant.2),
          ))
    ]
