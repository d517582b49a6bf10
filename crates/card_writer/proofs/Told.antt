-- What the writer answers, what it leaves, and that this opens as the source again.
use Rattle.std.proofs.Common.{◌≡◌, ℕ, ◌+◌, ◌*◌, ◌<◌, ◌≤◌, Bool, true, false, ltb, List, ◌++◌, map, length, get_or, take, drop, is_ok, Ok, Err, Result, sym, refl, ap, ◌∙◌, arith}
use Rattle.std.specs.List.{AllByRecursion, concat}
use Rattle.std.proofs.lemmas.List.{append_assoc, length-append, take_at}
use Rattle.std.proofs.ByRecursion.{All-get_or, All-from_get_or}
use Rattle.std.proofs.lemmas.Bool.{le-ltb, lt-ltb, cond-true}
use Rattle.faults.specs.declared.Fault.{Fault}
use Rattle.faults.specs.declared.Refusal.TheVariants.{TooManyModules, TooManyRecords, WrongLength}
use Rattle.faults.specs.Faults.{Verdict, refuse_if, and_then}
use Rattle.source.specs.Meaning.{Meaning, Proper, count_of, record_total, past_modules, past_records, no_modules}
use Rattle.card.specs.Cards.{card_fault, go_on, card_verdict, is_card, card_meaning, card_opened, all_records, encode_head, encode_modules, encode_record, encode}
use Rattle.card.specs.Writable.{Fits32, RecordFits, ModuleFits, Writable, Exact}
use Rattle.card.proofs.Whole.{head_length, modules_length, opened}
use Rattle.card_writer.specs.Written.{put_at, write_answer, left_by, rewrite_answer, rewritten_by, AwaitFits, SpanFits, SpansFit}
use Rattle.card_writer.proofs.Steps.{put_step, counted}

-- the answer, once the limits are kept
module _ (w : Meaning) (room : ℕ) (few : count_of w ≤ 4096) (records : record_total w ≤ 32768) where
  after_limits : (t : Bool) → ltb room (length (encode w)) ≡ t → write_answer w room ≡ go_on (refuse_if t (card_fault WrongLength room)) (λ _. Ok (length (encode w)))
  after_limits t e =
      ap (λ (a : Bool). go_on (and_then (refuse_if a (card_fault TooManyModules 0)) (and_then (refuse_if (ltb 32768 (record_total w)) (card_fault TooManyRecords 0)) (refuse_if (ltb room (length (encode w))) (card_fault WrongLength room)))) (λ _. Ok (length (encode w)))) (le-ltb 4096 (count_of w) few)
      ∙ ap (λ (a : Bool). go_on (and_then (refuse_if a (card_fault TooManyRecords 0)) (refuse_if (ltb room (length (encode w))) (card_fault WrongLength room))) (λ _. Ok (length (encode w)))) (le-ltb 32768 (record_total w) records)
      ∙ ap (λ (a : Bool). go_on (refuse_if a (card_fault WrongLength room)) (λ _. Ok (length (encode w)))) e

  pub too_short : (size : ℕ) → size ≡ length (encode w) → room < size → Err (card_fault WrongLength room) ≡ write_answer w room
  too_short size e h = sym (after_limits true (lt-ltb room (length (encode w)) (omega arith)))

  pub long_enough : (size : ℕ) → size ≡ length (encode w) → size ≤ room → Ok size ≡ write_answer w room
  long_enough size e h = ap Ok e ∙ sym (after_limits false (le-ltb room (length (encode w)) (omega arith)))

-- the head, the modules and the records, one after another
pub whole_written : (w : Meaning) (old one two three head : List ℕ) (size : ℕ) → size ≡ length (encode w) → head ≡ encode_head w → one ≡ put_at old 0 head → two ≡ put_at one 16 (concat (encode_modules 0 w.modules)) → three ≡ put_at two (16 + 24 * count_of w) (concat (map encode_record (all_records w.modules))) → three ≡ encode w ++ drop size old
whole_written w old one two three head size e eh e1 e2 e3 =
    let h = encode_head w in
    let ms = concat (encode_modules 0 w.modules) in
    let rs = concat (map encode_record (all_records w.modules)) in
    let after_head : two ≡ put_at old 0 (h ++ ms) = e2 ∙ put_step old one 0 16 h ms (omega arith) (e1 ∙ ap (put_at old 0) eh) (omega (arith, head_length w)) in
    let end : 0 + length (h ++ ms) ≡ 16 + 24 * count_of w = omega (arith, length-append h ms, head_length w, modules_length 0 w.modules) in
    let size_is : 0 + length (encode w) ≡ size = omega arith in
    e3 ∙ put_step old two 0 (16 + 24 * count_of w) (h ++ ms) rs (omega arith) after_head end
    ∙ ap (put_at old 0) (append_assoc h ms rs)
    ∙ ap (λ (n : ℕ). encode w ++ drop n old) size_is

-- a proper source whose numbers fit can be written
pub writable : (w : Meaning) → Proper w → Fits32 w.runtime → count_of w ≤ 4096 → record_total w ≤ 32768 → AllByRecursion AwaitFits w.modules → AllByRecursion SpansFit w.modules → Writable w
writable w p runtime few records awaits spans = record {
  runtime = runtime;
  few_modules = few;
  few_records = omega (arith, counted w.modules, records);
  modules = All-from_get_or ModuleFits w.modules past_modules (λ m h.
      let await = All-get_or AwaitFits w.modules m past_modules h awaits in
      let its = All-get_or SpansFit w.modules m past_modules h spans in
      let rs = (get_or w.modules m past_modules).records in
      record {
        start = await.0;
        end = await.1;
        blank = p.blank m;
        records = All-from_get_or RecordFits rs past_records (λ k lt.
            let span = All-get_or SpanFits rs k past_records lt its in
            record { target = p.targets m k; start = span.0; end = span.1 });
      });
}

pub reads_back : (w : Meaning) (now' rest : List ℕ) (size : ℕ) → Writable w → size ≡ length (encode w) → now' ≡ encode w ++ rest → card_opened (take size now') ≡ w
reads_back w now' rest size fits e is =
    ap (λ (x : List ℕ). card_opened (take size x)) is
    ∙ ap card_opened (take_at (encode w) rest size (sym e))
    ∙ opened w fits

-- an image that is accepted, written again
module _ (image : List ℕ) (w : Meaning) (verdict : card_verdict image ≡ Ok tt) (opens : w ≡ card_opened image) (exact : Exact image (Ok tt)) where
  means : w ≡ card_meaning image
  means = opens ∙ cond-true (is_card image) (card_meaning image) no_modules (ap is_ok verdict)

  again : encode w ≡ image
  again = ap encode means ∙ (exact.held refl).1

  fits : Writable (card_meaning image)
  fits = (exact.held refl).0

  pub opened_records : record_total w ≤ 32768
  opened_records = rw means (omega (arith, counted (card_meaning image).modules, fits.few_records))

  pub rewritten_answer : (r : Result ℕ Fault) (room : ℕ) → r ≡ write_answer w room → r ≡ rewrite_answer image room
  rewritten_answer r room e =
      let few : count_of w ≤ 4096 = rw means fits.few_modules in
      e ∙ after_limits w room few opened_records (ltb room (length (encode w))) refl
      ∙ ap (λ (x : List ℕ). go_on (refuse_if (ltb room (length x)) (card_fault WrongLength room)) (λ _. Ok (length x))) again
      ∙ ap (λ (v : Verdict). go_on (and_then v (refuse_if (ltb room (length image)) (card_fault WrongLength room))) (λ _. Ok (length image))) (sym verdict)

  pub rewritten_left : (r : Result ℕ Fault) (old : List ℕ) → left_by r w old ≡ rewritten_by r image old
  rewritten_left (Ok n) old = ap (λ (x : List ℕ). x ++ drop n old) again
  rewritten_left (Err f) old = refl
