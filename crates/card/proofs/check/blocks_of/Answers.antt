use Rattle.std.proofs.Common.{◌≡◌, ◌+◌, ◌*◌, ◌/◌, length, take, drop, ap, ◌∙◌, arith}
use Rattle.std.proofs.lemmas.List.{drop-drop, take_rest}
use Rattle.std.specs.Simd.{first_chunks}
use Rattle.card.specs.Cards.{module_count, record_count}
use Rattle.card.proofs.Cuts.{chunks_of_part}
use Rattle.card.proofs.check.blocks_of.Goals as goal

pub returns-clause-modules : goal.returns-clause-modules
returns-clause-modules c =
    let bs = c.args.image.now in
    let size : length c.split_at.result.0.now / 24 ≡ module_count bs = omega arith in
    c.as_chunks.ensures.front
    ∙ ap (λ n. first_chunks 24 n c.split_at.result.0.now) size
    ∙ ap (first_chunks 24 (module_count bs)) (c.split_at.ensures.front ∙ ap (take (24 * c.u32_at.result)) (take_rest bs 16) ∙ ap (λ n. take (24 * n) (drop 16 bs)) c.u32_at.ensures)
    ∙ chunks_of_part 24 (module_count bs) (drop 16 bs)

pub returns-clause-records : goal.returns-clause-records
returns-clause-records c =
    let bs = c.args.image.now in
    let size : length c.split_at.result.1.now / 18 ≡ record_count bs = omega arith in
    c.as_chunks-2.ensures.front
    ∙ ap (λ n. first_chunks 18 n c.split_at.result.1.now) size
    ∙ ap (first_chunks 18 (record_count bs)) (c.split_at.ensures.back ∙ ap (drop (24 * c.u32_at.result)) (take_rest bs 16) ∙ drop-drop (24 * c.u32_at.result) 16 bs ∙ ap (λ n. drop (16 + 24 * n) bs) c.u32_at.ensures)
