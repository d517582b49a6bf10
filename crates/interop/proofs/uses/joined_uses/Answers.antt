use Rattle.std.proofs.Common.{◌≡◌, refl, ap, ◌∙◌}
use Rattle.std.proofs.lemmas.Fn.{says_at}
use Rattle.spread.specs.Kinds.{use_join}
use Rattle.interop.proofs.Joins.{joined_more, joined_all}
use Rattle.interop.proofs.uses.joined_uses.Goals as goal

pub loop-row-preserved : goal.loop-row-preserved
loop-row-preserved g c = λ of key.
    let row = c.row-item.result in
    let is : c.use_of.result ≡ of row = key row c.use_of.result (says_at g.F.Fn c.use_of.ensures refl) in
    joined_more of c.args.rows.now c.loop-row.row-index c.loop-row.uses (c.loop-row.invariant of key) row c.joined-uses.result c.loop-row-test.true
    (c.joined-uses.ensures ∙ ap (use_join c.loop-row.uses) (is ∙ ap of c.row-item.is))

pub returns : goal.returns
returns g c = λ of key. joined_all of c.args.rows.now c.loop-row.row-index c.loop-row.uses (c.loop-row.invariant of key) c.loop-row-test.false
