use Rattle.std.proofs.Common.{◌≡◌, ◌+◌, ◌<◌, [], ◌∷◌, ◌++◌, length, get_or, refl, sym, ap, ◌∙◌, inl, inr, arith}
use Rattle.std.proofs.lemmas.List.{append_assoc, append-nil, length-append, length_push}
use Rattle.std.proofs.Math.Seq.{get_or-append_seam}
use Rattle.std.specs.Slice.Iter.{iter_rest}
use Rattle.spread.specs.Leads.{no_arrow}
use Rattle.spread.specs.Sweep.{Since, carried}
use Rattle.std.proofs.lemmas.Bool.{cases_eq, or_parts}
use Rattle.spread.proofs.Order.{lattice}
use Rattle.spread.proofs.Steps.{swept_step}
use Rattle.spread.proofs.run.sweep_backward.Goals as goal

pub loop-last-init : goal.loop-last-init
loop-last-init g c =
    let left = iter_rest c.into_iter-last-iterator.result.iter in
    let all : left ≡ c.args.arrows.now = ap (λ it. iter_rest it.iter) c.into_iter-last-iterator.ensures.into_iter_gives ∙ ap iter_rest c.rev-last-items.ensures.source ∙ c.iter.ensures.rest in
    let laws = lattice g.met.F.Fact.assoc g.met.F.Fact.comm g.met.F.Fact.idem g.met.F.Fact.left in (
      ([], append-nil left ∙ all),
      record { long = refl; above = λ p. laws.idem _; brought = λ i h since. absurd (omega (arith, ap length all)); made = λ start m. m; still = λ e. refl },
    )

pub loop-last-preserved : goal.loop-last-preserved
loop-last-preserved g c =
    let laws = lattice g.met.F.Fact.assoc g.met.F.Fact.comm g.met.F.Fact.idem g.met.F.Fact.left in
    let left = iter_rest c.next.new.self.iter in
    let x = c.in-Some.last.now in
    let taken = c.loop-last.invariant.0.0 in
    let whole : left ++ (x ∷ taken) ≡ c.args.arrows.now =
    sym (append_assoc left (x ∷ []) taken) ∙ ap (λ xs. xs ++ taken) (sym c.in-Some.ensures.steps) ∙ c.loop-last.invariant.0.1 in
    let i = length left in
    let i_in : i < length c.args.arrows.now = omega (arith, ap length whole, length-append left (x ∷ taken)) in
    let at : x ≡ get_or c.args.arrows.now i no_arrow = sym (get_or-append_seam left x taken no_arrow) ∙ ap (λ xs. get_or xs i no_arrow) whole in
    let before = length (iter_rest c.loop-last.last-iterator.iter) in
    let one_less : before ≡ i + 1 = ap length c.in-Some.ensures.steps ∙ length_push left x in (
      (x ∷ taken, whole),
      swept_step laws c.args.arrows.now (Since before) (Since i) c.args.facts.now c.loop-last.facts c.carry-moved.new.facts c.loop-last.changed _ i i_in (c.requires i i_in) c.loop-last.invariant.1
          (c.carry-moved.ensures.writes ∙ ap (carried g.F.Fact.zero g.F.Fact.join c.loop-last.facts) at)
          (λ e. let q = or_parts c.loop-last.changed c.carry-moved.result e in (c.carry-moved.ensures.still q.1, q.0))
          (λ j h. elim (cases_eq j i) [ inl e ↦ inr e | inr n ↦ inl (omega arith) ]),
    )

pub returns : goal.returns
returns g c =
    let s = c.loop-last.invariant.1 in
    record { long = s.long; above = s.above; brought = λ i h u. s.brought i h (omega (arith, c.in-None.ensures.steps.0)); made = s.made; still = s.still }
