use Rattle.std.proofs.Common.{◌≡◌, ℕ, ◌+◌, ◌*◌, ◌≤◌, ◌++◌, length, Err, refl, ap, ◌∙◌, arith}
use Rattle.faults.specs.declared.Fault.{Fault}
use Rattle.source.specs.Meaning.{count_of, record_total}
use Rattle.card.specs.Bytes.{le4}
use Rattle.card.specs.Cards.{block, encode, encode_head}
use Rattle.card.specs.Writable.{Fits32}
use Rattle.card.proofs.Whole.{encode_length}
use Rattle.card_writer.proofs.Steps.{counted}
use Rattle.card_writer.proofs.Told.{too_short, long_enough, whole_written, writable, reads_back}
use Rattle.card_writer.proofs.write_card.Goals as goal

pub returns-then-out-size : goal.returns-then-out-size
returns-then-out-size g c =
    let w = g.S.ModuleSource.meaning c.args.source.now in
    let sum = rw c.in_ok-records.ensures.ok_part at c.count_records.ensures in
    let size : 16 + 24 * c.module_count-modules.result + 18 * c.in_ok-records.records ≡ length (encode w) =
    omega (arith, encode_length w, counted w.modules, c.module_count-modules.ensures, sum.0) in
    record {
      answer = ap (λ (f : Fault). Err f) c.card_fault-then-out-size.ensures ∙ too_short w (length c.args.out.now) (omega (arith, c.module_count-modules.ensures)) (omega (arith, sum)) _ size (omega arith);
      image = refl;
      back = tt;
    }

pub returns : goal.returns
returns g c =
    let w = g.S.ModuleSource.meaning c.args.source.now in
    let sum = rw c.in_ok-records.ensures.ok_part at c.count_records.ensures in
    let old = c.args.out.now in
    let few : count_of w ≤ 4096 = omega (arith, c.module_count-modules.ensures) in
    let total : c.in_ok-records.records ≡ record_total w = sum.0 in
    let records : record_total w ≤ 32768 = omega (arith, sum) in
    let size : 16 + 24 * c.module_count-modules.result + 18 * c.in_ok-records.records ≡ length (encode w) =
    omega (arith, encode_length w, counted w.modules, total, c.module_count-modules.ensures) in
    let head : c.head_block-head.result ≡ encode_head w =
    c.head_block-head.ensures
    ∙ ap (λ (n : ℕ). block 16 1 (le4 n ++ (le4 c.module_count-modules.result ++ le4 c.in_ok-records.records))) c.runtime.ensures
    ∙ ap (λ (n : ℕ). block 16 1 (le4 w.runtime ++ (le4 n ++ le4 c.in_ok-records.records))) c.module_count-modules.ensures
    ∙ ap (λ (n : ℕ). block 16 1 (le4 w.runtime ++ (le4 (count_of w) ++ le4 n))) (total ∙ counted w.modules) in
    let image = whole_written w old c.put.new.out c.write_modules.new.out c.write_records.new.out c.head_block-head.result _ size head
    c.put.ensures c.write_modules.ensures.image c.write_records.ensures.image in
    let runtime : Fits32 w.runtime = omega (arith, c.runtime.ensures, c.runtime.type_inv) in
    let fits = writable w (g.S.ModuleSource.proper c.args.source.now) runtime few records c.write_modules.ensures.fits c.write_records.ensures.fits in
    record {
      answer = long_enough w (length old) few records _ size (omega arith);
      image = image;
      back = reads_back w c.write_records.new.out _ _ fits size image;
    }
