use Rattle.std.proofs.Common.{◌≡◌, ℕ, ◌+◌, ◌-◌, List, ◌++◌, length, take, drop, ap, ◌∙◌, arith}
use Rattle.std.proofs.lemmas.List.{drop-drop}
use Rattle.card_writer.proofs.put.Goals as goal

pub returns : goal.returns
returns c =
    let old = c.args.out.now in
    let at = c.args.at in
    let bytes = c.args.bytes.now in
    let size : at + (at + length bytes - at) ≡ at + length bytes = omega arith in
    ap (λ (x : List ℕ). take at old ++ (x ++ drop (at + length bytes - at) (drop at old))) c.copy_from_slice.ensures.after
    ∙ ap (λ (x : List ℕ). take at old ++ (bytes ++ x)) (drop-drop (at + length bytes - at) at old ∙ ap (λ (n : ℕ). drop n old) size)
