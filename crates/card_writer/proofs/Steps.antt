-- One more block: what the lists of blocks and the slice come to.
use Rattle.std.proofs.Common.{◌≡◌, ℕ, zero, suc, ◌+◌, ◌*◌, ◌<◌, ◌≤◌, List, [], ◌∷◌, ◌++◌, map, length, sum_by, get_or, take, drop, sym, refl, ap, ◌∙◌, add-zero, arith}
use Rattle.std.proofs.lemmas.List.{append-nil, append_assoc, length-append, length-take-le, take-append-drop, take_at, drop_at, drop-drop, take_more, map_push, map-append}
use Rattle.std.proofs.lemmas.List.Sums.{sum_by-cons}
use Rattle.source.specs.declared.ImportRecord.{ImportRecord}
use Rattle.source.specs.declared.Module.{Module}
use Rattle.source.specs.Meaning.{Scanned, past_modules, past_records}
use Rattle.std.specs.List.{concat}
use Rattle.card.specs.Fields.{module_fields}
use Rattle.card.specs.Cards.{block, all_records, encode_modules, encode_record}
use Rattle.card.proofs.Whole.{modules_length, records_length}
use Rattle.card_writer.specs.Written.{put_at}
use Rattle.card_writer.proofs.Spelled.{concat-append, concat-push}

-- the slice

pub put_none : (bs : List ℕ) (at : ℕ) → bs ≡ put_at bs at []
put_none bs at = sym (ap (λ (n : ℕ). take at bs ++ drop n bs) (add-zero at) ∙ take-append-drop at bs)

put_more : (bs : List ℕ) (at : ℕ) (p b : List ℕ) → at ≤ length bs → put_at (put_at bs at p) (at + length p) b ≡ put_at bs at (p ++ b)
put_more bs at p b h =
    let rest = drop (at + length p) bs in
    let front : length (take at bs ++ p) ≡ at + length p = length-append (take at bs) p ∙ ap (λ (n : ℕ). n + length p) (length-take-le at bs h) in
    let whole : put_at bs at p ≡ (take at bs ++ p) ++ rest = sym (append_assoc (take at bs) p rest) in
    let kept : take (at + length p) (put_at bs at p) ≡ take at bs ++ p = ap (take (at + length p)) whole ∙ take_at (take at bs ++ p) rest (at + length p) front in
    let past : drop (at + length p + length b) (put_at bs at p) ≡ drop (at + length (p ++ b)) bs =
    sym (drop-drop (length b) (at + length p) (put_at bs at p))
    ∙ ap (drop (length b)) (ap (drop (at + length p)) whole ∙ drop_at (take at bs ++ p) rest (at + length p) front)
    ∙ drop-drop (length b) (at + length p) bs
    ∙ ap (λ (n : ℕ). drop n bs) (omega (arith, length-append p b)) in
    ap (λ (x : List ℕ). x ++ (b ++ drop (at + length p + length b) (put_at bs at p))) kept
    ∙ ap (λ (x : List ℕ). (take at bs ++ p) ++ (b ++ x)) past
    ∙ append_assoc (take at bs) p (b ++ drop (at + length (p ++ b)) bs)
    ∙ ap (λ (x : List ℕ). take at bs ++ x) (sym (append_assoc p b (drop (at + length (p ++ b)) bs)))

-- writing b after p, where the slice held `held` and b stands at `here`
pub put_step : (old held : List ℕ) (at here : ℕ) (p b : List ℕ) → at ≤ length old → held ≡ put_at old at p → at + length p ≡ here → put_at held here b ≡ put_at old at (p ++ b)
put_step old held at here p b h e at-end =
    ap (λ (x : List ℕ). put_at x here b) e
    ∙ ap (λ (n : ℕ). put_at (put_at old at p) n b) (sym at-end)
    ∙ put_more old at p b h

-- the lists of blocks

all_records_push : (ss : List Scanned) (s : Scanned) → all_records (ss ++ s ∷ []) ≡ all_records ss ++ s.records
all_records_push [] s = append-nil s.records
all_records_push (x ∷ ss) s = ap (λ (y : List ImportRecord). x.records ++ y) (all_records_push ss s) ∙ sym (append_assoc x.records (all_records ss) s.records)

encode_modules_push : (first : ℕ) (ss : List Scanned) (s : Scanned) → encode_modules first (ss ++ s ∷ []) ≡ encode_modules first ss ++ block 24 2 (module_fields s.described (first + length (all_records ss)) (length s.records)) ∷ []
encode_modules_push first [] s = ap (λ (n : ℕ). block 24 2 (module_fields s.described n (length s.records)) ∷ []) (sym (add-zero first))
encode_modules_push first (x ∷ ss) s =
    let sum : first + length x.records + length (all_records ss) ≡ first + length (all_records (x ∷ ss)) = omega (arith, length-append x.records (all_records ss)) in
    ap (λ (y : List (List ℕ)). block 24 2 (module_fields x.described first (length x.records)) ∷ y)
    (encode_modules_push (first + length x.records) ss s
    ∙ ap (λ (n : ℕ). encode_modules (first + length x.records) ss ++ block 24 2 (module_fields s.described n (length s.records)) ∷ []) sum)

module _ (ss : List Scanned) (m : ℕ) (h : m < length ss) where
  abbrev here : Scanned
  here = get_or ss m past_modules

  pub all_records_more : all_records (take (m + 1) ss) ≡ all_records (take m ss) ++ here.records
  all_records_more = ap all_records (take_more ss m past_modules h) ∙ all_records_push (take m ss) here

  pub count_more : length (all_records (take (m + 1) ss)) ≡ length (all_records (take m ss)) + length here.records
  count_more = ap length all_records_more ∙ length-append (all_records (take m ss)) here.records

  pub modules_more : concat (encode_modules 0 (take (m + 1) ss)) ≡ concat (encode_modules 0 (take m ss)) ++ block 24 2 (module_fields here.described (length (all_records (take m ss))) (length here.records))
  modules_more =
      let sum : 0 + length (all_records (take m ss)) ≡ length (all_records (take m ss)) = omega arith in
      ap (λ (x : List Scanned). concat (encode_modules 0 x)) (take_more ss m past_modules h)
      ∙ ap concat (encode_modules_push 0 (take m ss) here)
      ∙ concat-push (encode_modules 0 (take m ss)) (block 24 2 (module_fields here.described (0 + length (all_records (take m ss))) (length here.records)))
      ∙ ap (λ (n : ℕ). concat (encode_modules 0 (take m ss)) ++ block 24 2 (module_fields here.described n (length here.records))) sum

-- the records of the first modules are some of all
count_le : (m : ℕ) (ss : List Scanned) → length (all_records (take m ss)) ≤ length (all_records ss)
count_le zero ss = omega arith
count_le (suc m) [] = omega arith
count_le (suc m) (s ∷ ss) = omega (arith, length-append s.records (all_records (take m ss)), length-append s.records (all_records ss), count_le m ss)

-- the records of all modules, counted module by module
pub counted : (ss : List Scanned) → sum_by (λ (s : Scanned). length s.records) ss ≡ length (all_records ss)
counted [] = refl
counted (s ∷ ss) = sum_by-cons (λ (s' : Scanned). length s'.records) s ss ∙ ap (λ n. length s.records + n) (counted ss) ∙ sym (length-append s.records (all_records ss))

pub count_within : (ss : List Scanned) (m : ℕ) → m < length ss → length (all_records (take m ss)) + length (get_or ss m past_modules).records ≤ sum_by (λ (s : Scanned). length s.records) ss
count_within ss m h = omega (arith, count_more ss m h, count_le (m + 1) ss, counted ss)

pub records_more : (rs : List ImportRecord) (k : ℕ) → k < length rs → concat (map encode_record (take (k + 1) rs)) ≡ concat (map encode_record (take k rs)) ++ encode_record (get_or rs k past_records)
records_more rs k h =
    ap (λ (x : List ImportRecord). concat (map encode_record x)) (take_more rs k past_records h)
    ∙ ap concat (map_push encode_record (take k rs) (get_or rs k past_records))
    ∙ concat-push (map encode_record (take k rs)) (encode_record (get_or rs k past_records))

-- one turn of each loop

module_step : (ss : List Scanned) (m : ℕ) (old held b : List ℕ) → m < length ss → 16 ≤ length old → held ≡ put_at old 16 (concat (encode_modules 0 (take m ss))) → b ≡ block 24 2 (module_fields (get_or ss m past_modules).described (length (all_records (take m ss))) (length (get_or ss m past_modules).records)) → put_at held (16 + 24 * m) b ≡ put_at old 16 (concat (encode_modules 0 (take (m + 1) ss)))
module_step ss m old held b lt long e is =
    let p = concat (encode_modules 0 (take m ss)) in
    let end : 16 + length p ≡ 16 + 24 * m = omega (arith, modules_length 0 (take m ss), length-take-le m ss (omega arith)) in
    put_step old held 16 (16 + 24 * m) p b long e end
    ∙ ap (put_at old 16) (ap (λ (x : List ℕ). p ++ x) is ∙ sym (modules_more ss m lt))

-- the same where the values come from calls
pub module_turn : (ss : List Scanned) (m : ℕ) (old held new b : List ℕ) (d : Module) (first count : ℕ) → m < length ss → 16 ≤ length old → held ≡ put_at old 16 (concat (encode_modules 0 (take m ss))) → first ≡ length (all_records (take m ss)) → count ≡ length (get_or ss m past_modules).records → d ≡ (get_or ss m past_modules).described → b ≡ block 24 2 (module_fields d first count) → new ≡ put_at held (16 + 24 * m) b → new ≡ put_at old 16 (concat (encode_modules 0 (take (m + 1) ss)))
module_turn ss m old held new b d first count lt long e ef ec ed eb en =
    en ∙ module_step ss m old held b lt long e
    (eb
    ∙ ap (λ (x : Module). block 24 2 (module_fields x first count)) ed
    ∙ ap (λ (n : ℕ). block 24 2 (module_fields (get_or ss m past_modules).described n count)) ef
    ∙ ap (λ (n : ℕ). block 24 2 (module_fields (get_or ss m past_modules).described (length (all_records (take m ss))) n)) ec)

pub record_turn : (rs : List ImportRecord) (k at : ℕ) (old held new b : List ℕ) (r : ImportRecord) → k < length rs → at ≤ length old → held ≡ put_at old at (concat (map encode_record (take k rs))) → r ≡ get_or rs k past_records → b ≡ encode_record r → new ≡ put_at held (at + 18 * k) b → new ≡ put_at old at (concat (map encode_record (take (k + 1) rs)))
record_turn rs k at old held new b r lt long e er eb en =
    let p = concat (map encode_record (take k rs)) in
    let end : at + length p ≡ at + 18 * k = omega (arith, records_length (take k rs), length-take-le k rs (omega arith)) in
    en ∙ put_step old held at (at + 18 * k) p b long e end
    ∙ ap (put_at old at) (ap (λ (x : List ℕ). p ++ x) (eb ∙ ap encode_record er) ∙ sym (records_more rs k lt))

pub records_turn : (ss : List Scanned) (m start done : ℕ) (old held new : List ℕ) → m < length ss → start ≤ length old → held ≡ put_at old start (concat (map encode_record (all_records (take m ss)))) → done ≡ length (all_records (take m ss)) → new ≡ put_at held (start + 18 * done) (concat (map encode_record (get_or ss m past_modules).records)) → new ≡ put_at old start (concat (map encode_record (all_records (take (m + 1) ss))))
records_turn ss m start done old held new lt long e ed en =
    let before = all_records (take m ss) in
    let its = (get_or ss m past_modules).records in
    let p = concat (map encode_record before) in
    let end : start + length p ≡ start + 18 * done = omega (arith, records_length before) in
    en ∙ put_step old held start (start + 18 * done) p (concat (map encode_record its)) long e end
    ∙ ap (put_at old start)
    (sym (concat-append (map encode_record before) (map encode_record its))
    ∙ ap concat (sym (map-append encode_record before its))
    ∙ ap (λ (x : List ImportRecord). concat (map encode_record x)) (sym (all_records_more ss m lt)))
