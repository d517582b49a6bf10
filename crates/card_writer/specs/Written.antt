-- What the card writer answers and leaves.
--
--   put_at          a list with others written over it from an offset on
--   write_answer    the card's byte count, or what is refused: the limits, then the slice's length
--   AwaitFits, SpanFits, SpansFit   the numbers of a module, of a record and of all its records fit their four bytes
--   ReadsBack       what was written opens as the source that was asked
--   rewrite_answer, rewritten_by   the same for an image that is opened and written again: it comes back byte for byte
--   left_by         what the slice holds after that answer: the card and what stood past it, or all as it was
use Rattle.std.specs.Prelude.{◌≡◌, ℕ, ◌+◌, List, ◌++◌, length, take, drop, Ok, Err, Result, nat_lt}
use Rattle.std.specs.List.{AllByRecursion}
use Rattle.faults.specs.declared.Fault.{Fault}
use Rattle.faults.specs.declared.Refusal.TheVariants.{TooManyModules, TooManyRecords, WrongLength}
use Rattle.faults.specs.Faults.{refuse_if, and_then}
use Rattle.source.specs.declared.ImportRecord.{ImportRecord}
use Rattle.source.specs.Meaning.{Meaning, Scanned, count_of, record_total}
use Rattle.source.specs.Numbers.{module_limit, record_limit}
use Rattle.card.specs.Cards.{card_fault, go_on, card_verdict, card_opened, encode}
use Rattle.card.specs.Fields.{await_start, await_end}
use Rattle.card.specs.Writable.{Fits32}

abbrev pub put_at : List ℕ → ℕ → List ℕ → List ℕ
put_at bs at xs = take at bs ++ (xs ++ drop (at + length xs) bs)

abbrev pub write_answer : Meaning → ℕ → Result ℕ Fault
write_answer w room =
    go_on (and_then (refuse_if (nat_lt module_limit (count_of w)) (card_fault TooManyModules 0))
    (and_then (refuse_if (nat_lt record_limit (record_total w)) (card_fault TooManyRecords 0))
    (refuse_if (nat_lt room (length (encode w))) (card_fault WrongLength room))))
    (λ _. Ok (length (encode w)))

abbrev pub left_by : Result ℕ Fault → Meaning → List ℕ → List ℕ
left_by (Ok n) w old = encode w ++ drop n old
left_by (Err f) w old = old

abbrev pub AwaitFits : Scanned → Type 0
AwaitFits s = Fits32 (await_start s.described) × Fits32 (await_end s.described)

abbrev pub SpanFits : ImportRecord → Type 0
SpanFits r = Fits32 r.span.start × Fits32 r.span.end

abbrev pub SpansFit : Scanned → Type 0
SpansFit s = AllByRecursion SpanFits s.records

abbrev pub ReadsBack : Result ℕ Fault → Meaning → List ℕ → Type 0
ReadsBack (Ok n) w now = card_opened (take n now) ≡ w
ReadsBack (Err f) w now = Unit {0}

abbrev pub rewrite_answer : List ℕ → ℕ → Result ℕ Fault
rewrite_answer image room =
    go_on (and_then (card_verdict image) (refuse_if (nat_lt room (length image)) (card_fault WrongLength room))) (λ _. Ok (length image))

abbrev pub rewritten_by : Result ℕ Fault → List ℕ → List ℕ → List ℕ
rewritten_by (Ok n) image old = image ++ drop n old
rewritten_by (Err f) image old = old
