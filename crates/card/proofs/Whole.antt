-- A card and its meaning, there and back.
use Rattle.std.proofs.Common.{◌≡◌, ℕ, zero, suc, ◌+◌, ◌*◌, ◌<◌, ◌≤◌, Bool, true, false, cond, ltb, List, [], ◌∷◌, ◌++◌, map, length, get_or, take, drop, is_ok, sym, refl, ap, ◌∙◌, subst, ⊎_elim, add-zero, mul-zero, mul-suc, arith}
use Rattle.std.specs.List.{AllByRecursion, concat}
use Rattle.std.proofs.lemmas.List.{append-nil, append_assoc, length-append, length-map, length-take, length-take-le, length-drop, take-append-drop, take_at, drop_at, drop-drop, drop_all, drop_more, get_or-take, get_or-drop, get_or_past}
use Rattle.std.proofs.ByRecursion.{All-append, All-take, All-drop}
use Rattle.std.proofs.lemmas.Bool.{cases_lt, cond-true}
use Rattle.source.specs.declared.ImportRecord.{ImportRecord}
use Rattle.source.specs.declared.Module.{Module}
use Rattle.source.specs.declared.Module.TheVariants.{External, Normal}
use Rattle.source.specs.declared.NormalModule.{NormalModule}
use Rattle.source.specs.Meaning.{Meaning, Scanned, no_modules}
use Rattle.std.specs.Simd.{first_chunks}
use Rattle.card.specs.Bytes.{u16_le, u32_le, le2, le4}
use Rattle.card.specs.Fields.{is_external, module_of, first_of, count_of, record_of, await_start, await_end, module_fields, record_fields, module_wrong, record_wrong}
use Rattle.card.specs.Cards.{card_verdict, is_card, card_opened, block, fields_of, head_wrong, block_record, block_scanned, card_meaning, card_size, module_count, module_blocks, record_count, records_start, record_blocks, all_records, encode_head, encode_modules, encode_record, encode}
use Rattle.card.specs.Accepted.{ModuleBlock, Chained, RecordBlock, Accepted}
use Rattle.card.specs.Passed.{target_resolved, blank_scanned, accepted_from, accepted_to}
use Rattle.card.specs.Writable.{Fits32, RecordFits, ModuleFits, Writable, Exact}
use Rattle.card.proofs.Cuts.{length_cut}
use Rattle.card.proofs.Digits.{four, Bytes, le4_back, u32_fits}
use Rattle.card.proofs.Blocks.{record_decoded, module_decoded, first_decoded, count_decoded, record_right, module_right, head_right, record_head_right, fields_back, length_module_block, length_record_block, record_encoded, module_encoded, head_encoded}
use Rattle.card.proofs.Found.{chained_le, card_modules, taken_length}

-- cutting and joining

flat_cut : (size n : ℕ) (bs : List ℕ) → size * n ≤ length bs → concat (first_chunks size n bs) ++ drop (size * n) bs ≡ bs
flat_cut size zero bs h = ap (λ (k : ℕ). drop k bs) (mul-zero size)
flat_cut size (suc n) bs h =
    let more : size * suc n ≡ size + size * n = omega (arith, mul-suc size n) in
    ap (λ (k : ℕ). (take size bs ++ concat (first_chunks size n (drop size bs))) ++ drop k bs) more
    ∙ ap (λ (x : List ℕ). (take size bs ++ concat (first_chunks size n (drop size bs))) ++ x) (sym (drop-drop (size * n) size bs))
    ∙ append_assoc (take size bs) (concat (first_chunks size n (drop size bs))) (drop (size * n) (drop size bs))
    ∙ ap (λ (x : List ℕ). take size bs ++ x) (flat_cut size n (drop size bs) (rw length-drop (omega arith)))
    ∙ take-append-drop size bs

abbrev Sized : ℕ → List ℕ → Type 0
Sized size b = length b ≡ size

cut_flat : (size : ℕ) (bs : List (List ℕ)) (rest : List ℕ) → AllByRecursion (Sized size) bs → first_chunks size (length bs) (concat bs ++ rest) ≡ bs
cut_flat size [] rest h = refl
cut_flat size (b ∷ bs) rest (here, more) =
    let split = append_assoc b (concat bs) rest in
    ap (λ (x : List ℕ). take size x ∷ first_chunks size (length bs) (drop size x)) split
    ∙ ap (λ (x : List ℕ). x ∷ first_chunks size (length bs) (drop size (b ++ (concat bs ++ rest)))) (take_at b (concat bs ++ rest) size here)
    ∙ ap (λ (x : List ℕ). b ∷ first_chunks size (length bs) x) (drop_at b (concat bs ++ rest) size here)
    ∙ ap (λ (x : List (List ℕ)). b ∷ x) (cut_flat size bs rest more)

length_flat : (size : ℕ) (bs : List (List ℕ)) → AllByRecursion (Sized size) bs → length (concat bs) ≡ size * length bs
length_flat size [] h = sym (mul-zero size)
length_flat size (b ∷ bs) (here, more) =
    length-append b (concat bs) ∙ omega (arith, length_flat size bs more, mul-suc size (length bs))

-- the pieces of a list of bytes

abbrev Piece : ℕ → List ℕ → Type 0
Piece size b = (length b ≡ size) × Bytes b

pub bytes_drop : (n : ℕ) (bs : List ℕ) → Bytes bs → Bytes (drop n bs)
bytes_drop n bs h k = rw get_or-drop (h (n + k))

bytes_take : (n : ℕ) (bs : List ℕ) → Bytes bs → Bytes (take n bs)
bytes_take n bs h k = ⊎_elim
    (λ (lt : k < n). rw (get_or-take n bs k 0 lt) (h k))
    (λ (ge : n ≤ k). let past : length (take n bs) ≤ k = simp length-take (omega arith) in rw (get_or_past (take n bs) k 0 past) (omega arith))
    (cases_lt k n)

pieces : (size n : ℕ) (bs : List ℕ) → size * n ≤ length bs → Bytes bs → AllByRecursion (Piece size) (first_chunks size n bs)
pieces size zero bs h b = tt
pieces size (suc n) bs h b =
    let room : size + size * n ≤ length bs = omega (arith, mul-suc size n) in
    ((length-take-le size bs (omega arith), bytes_take size bs b), pieces size n (drop size bs) (rw length-drop (omega arith)) (bytes_drop size bs b))

-- from an accepted card to its meaning and back

fields_length : (size : ℕ) (b : List ℕ) → length b ≡ 4 + size → length (fields_of b) ≡ size
fields_length size b h = length-drop 4 b ∙ omega arith

module_back : (next : ℕ) (b : List ℕ) → Piece 24 b → ModuleBlock next b → block 24 2 (module_fields (module_of (fields_of b)) next (count_of (fields_of b))) ≡ b
module_back next b p right =
    ap (λ (n : ℕ). block 24 2 (module_fields (module_of (fields_of b)) n (count_of (fields_of b)))) (sym right.first)
    ∙ ap (block 24 2) (module_encoded (fields_of b) (fields_length 20 b p.0) (bytes_drop 4 b p.1) right.fields)
    ∙ head_encoded 24 2 b (omega (arith, p.0)) p.1 right.head

module _ (rs : List ImportRecord) (end : ℕ) (sized : length rs ≡ end) where
  modules_back : (next : ℕ) (bs : List (List ℕ)) → AllByRecursion (Piece 24) bs → Chained next bs end → encode_modules next (map (block_scanned rs) bs) ≡ bs
  modules_back next [] ps h = refl
  modules_back next (b ∷ bs) (p, ps) (here, rest) =
      let f = fields_of b in
      let within : first_of f + count_of f ≤ end = omega (arith, here.first, chained_le (next + count_of f) bs end rest) in
      ap (λ (n : ℕ). block 24 2 (module_fields (module_of f) next n) ∷ encode_modules (next + n) (map (block_scanned rs) bs)) (taken_length rs (first_of f) (count_of f) end sized within)
      ∙ ap (λ (x : List ℕ). x ∷ encode_modules (next + count_of f) (map (block_scanned rs) bs)) (module_back next b p here)
      ∙ ap (λ (x : List (List ℕ)). b ∷ x) (modules_back (next + count_of f) bs ps rest)

  all_records_back : (next : ℕ) (bs : List (List ℕ)) → Chained next bs end → all_records (map (block_scanned rs) bs) ≡ drop next rs
  all_records_back next [] h = sym (drop_all next rs (omega arith))
  all_records_back next (b ∷ bs) (here, rest) =
      let f = fields_of b in
      ap (λ (n : ℕ). take (count_of f) (drop n rs) ++ all_records (map (block_scanned rs) bs)) here.first
      ∙ ap (λ (x : List ImportRecord). take (count_of f) (drop next rs) ++ x) (all_records_back (next + count_of f) bs rest ∙ sym (drop-drop (count_of f) next rs))
      ∙ take-append-drop (count_of f) (drop next rs)

record_back : (b : List ℕ) → Piece 18 b → RecordBlock b → encode_record (block_record b) ≡ b
record_back b p right =
    ap (block 18 3) (record_encoded (fields_of b) (fields_length 14 b p.0) (bytes_drop 4 b p.1) right.fields)
    ∙ head_encoded 18 3 b (omega (arith, p.0)) p.1 right.head

records_back : (bs : List (List ℕ)) → AllByRecursion (Piece 18) bs → AllByRecursion RecordBlock bs → map encode_record (map block_record bs) ≡ bs
records_back [] ps h = refl
records_back (b ∷ bs) (p, ps) (here, rest) =
    ap (λ (x : List ℕ). x ∷ map encode_record (map block_record bs)) (record_back b p here)
    ∙ ap (λ (x : List (List ℕ)). b ∷ x) (records_back bs ps rest)

le4_split : (bs : List ℕ) → Bytes bs → (at : ℕ) → at + 4 ≤ length bs → le4 (u32_le bs at) ++ drop (at + 4) bs ≡ drop at bs
le4_split bs bytes at h =
    ap (λ (x : List ℕ). x ++ drop (at + 4) bs) (le4_back bs bytes at)
    ∙ sym (step at (at + 1) refl (omega arith)
    ∙ ap (λ (x : List ℕ). get_or bs at 0 ∷ x) (step (at + 1) (at + 2) (omega arith) (omega arith)
    ∙ ap (λ (x : List ℕ). get_or bs (at + 1) 0 ∷ x) (step (at + 2) (at + 3) (omega arith) (omega arith)
    ∙ ap (λ (x : List ℕ). get_or bs (at + 2) 0 ∷ x) (step (at + 3) (at + 4) (omega arith) (omega arith)))))
  where
    step : (i j : ℕ) → i + 1 ≡ j → i < length bs → drop i bs ≡ get_or bs i 0 ∷ drop j bs
    step i j e lt = drop_more bs i 0 lt ∙ ap (λ (n : ℕ). get_or bs i 0 ∷ drop n bs) e

-- the head and what follows it
head_back : (bs : List ℕ) → Bytes bs → 16 ≤ length bs → head_wrong 16 1 bs ≡ false → block 16 1 (le4 (u32_le bs 4) ++ (le4 (u32_le bs 8) ++ (le4 (u32_le bs 12) ++ drop 16 bs))) ≡ bs
head_back bs bytes long right =
    ap (λ (x : List ℕ). block 16 1 (le4 (u32_le bs 4) ++ (le4 (u32_le bs 8) ++ x))) (le4_split bs bytes 12 (omega arith))
    ∙ ap (λ (x : List ℕ). block 16 1 (le4 (u32_le bs 4) ++ x)) (le4_split bs bytes 8 (omega arith))
    ∙ ap (block 16 1) (le4_split bs bytes 4 (omega arith))
    ∙ head_encoded 16 1 bs (omega arith) bytes right

blocks_back : (bs : List ℕ) → length bs ≡ card_size bs → concat (module_blocks bs) ++ concat (record_blocks bs) ≡ drop 16 bs
blocks_back bs size =
    let rest = drop (records_start bs) bs in
    ap (λ (x : List ℕ). concat (module_blocks bs) ++ x)
    (sym (append-nil (concat (record_blocks bs)))
    ∙ ap (λ (x : List ℕ). concat (record_blocks bs) ++ x) (sym (drop_all (18 * record_count bs) rest (rw length-drop (omega arith))))
    ∙ flat_cut 18 (record_count bs) rest (rw length-drop (omega arith))
    ∙ sym (drop-drop (24 * module_count bs) 16 bs))
    ∙ flat_cut 24 (module_count bs) (drop 16 bs) (rw length-drop (omega arith))

regrouped : (a b c d e x : List ℕ) → (a ++ (b ++ (c ++ (d ++ e)))) ++ x ≡ a ++ (b ++ (c ++ (d ++ (e ++ x))))
regrouped a b c d e x = simp append_assoc

-- an accepted image is the one that its meaning has
module _ (bs : List ℕ) (a : Accepted bs) (bytes : Bytes bs) where
  abbrev kept : List ImportRecord
  kept = map block_record (record_blocks bs)

  kept_length : length kept ≡ record_count bs
  kept_length = length-map (record_blocks bs) block_record ∙ length_cut 18 (record_count bs) (drop (records_start bs) bs)

  kept_all : all_records (card_meaning bs).modules ≡ kept
  kept_all = all_records_back kept (record_count bs) kept_length 0 (module_blocks bs) a.modules

  module_blocks_back : encode_modules 0 (card_meaning bs).modules ≡ module_blocks bs
  module_blocks_back =
      modules_back kept (record_count bs) kept_length 0 (module_blocks bs)
      (pieces 24 (module_count bs) (drop 16 bs) (rw length-drop (omega (arith, a.size))) (bytes_drop 16 bs bytes)) a.modules

  record_blocks_back : map encode_record (all_records (card_meaning bs).modules) ≡ record_blocks bs
  record_blocks_back =
      ap (map encode_record) kept_all
      ∙ records_back (record_blocks bs) (pieces 18 (record_count bs) (drop (records_start bs) bs) (rw length-drop (omega (arith, a.size))) (bytes_drop (records_start bs) bs bytes)) a.records

  pub encoded : encode (card_meaning bs) ≡ bs
  encoded =
      ap (λ (x : List (List ℕ)). encode_head (card_meaning bs) ++ (concat x ++ concat (map encode_record (all_records (card_meaning bs).modules)))) module_blocks_back
      ∙ ap (λ (x : List (List ℕ)). encode_head (card_meaning bs) ++ (concat (module_blocks bs) ++ concat x)) record_blocks_back
      ∙ ap (λ (x : List ℕ). encode_head (card_meaning bs) ++ x) (blocks_back bs a.size)
      ∙ regrouped (le2 16) (le2 1) (le4 (u32_le bs 4)) (le4 (length (card_meaning bs).modules)) (le4 (length (all_records (card_meaning bs).modules))) (drop 16 bs)
      ∙ ap (λ (n : ℕ). block 16 1 (le4 (u32_le bs 4) ++ (le4 n ++ (le4 (length (all_records (card_meaning bs).modules)) ++ drop 16 bs)))) (card_modules bs)
      ∙ ap (λ (n : ℕ). block 16 1 (le4 (u32_le bs 4) ++ (le4 (u32_le bs 8) ++ (le4 n ++ drop 16 bs)))) (ap length kept_all ∙ kept_length)
      ∙ head_back bs bytes (omega (arith, a.size)) a.head

-- what a card means, a card can hold

await_fits : (b : Bool) (n : NormalModule) → Fits32 n.await_span.start → Fits32 n.await_span.end → Fits32 (await_start (cond b External (Normal n))) × Fits32 (await_end (cond b External (Normal n)))
await_fits true n s e = (omega arith, omega arith)
await_fits false n s e = (s, e)

record_fits : (b : List ℕ) → Bytes b → RecordFits (block_record b)
record_fits b bytes =
    let f = fields_of b in
    let fb = bytes_drop 4 b bytes in
    record {
      target = λ t. target_resolved (u32_le f 2) t (ltb (u32_le f 2) 4294967295) refl;
      start = u32_fits f fb 6;
      end = u32_fits f fb 10;
    }

records_fit : (bs : List (List ℕ)) → AllByRecursion (Piece 18) bs → AllByRecursion RecordFits (map block_record bs)
records_fit [] ps = tt
records_fit (b ∷ bs) (p, ps) = (record_fits b p.1, records_fit bs ps)

modules_fit : (rs : List ImportRecord) → AllByRecursion RecordFits rs → (next end : ℕ) (bs : List (List ℕ)) → AllByRecursion (Piece 24) bs → Chained next bs end → AllByRecursion ModuleFits (map (block_scanned rs) bs)
modules_fit rs all next end [] ps h = tt
modules_fit rs all next end (b ∷ bs) (p, ps) (here, rest) =
    let f = fields_of b in
    let fb = bytes_drop 4 b p.1 in
    let await = await_fits (is_external f) _ (u32_fits f fb 4) (u32_fits f fb 8) in (
      record {
        start = await.0;
        end = await.1;
        blank = blank_scanned rs b here.fields;
        records = All-take RecordFits (count_of f) (drop (first_of f) rs) (All-drop RecordFits (first_of f) rs all);
      },
      modules_fit rs all (next + count_of f) end bs ps rest,
    )

pub readable : (bs : List ℕ) → Accepted bs → Bytes bs → Writable (card_meaning bs)
readable bs a bytes = record {
  runtime = u32_fits bs bytes 4;
  few_modules = omega (arith, card_modules bs, a.few_modules);
  few_records = omega (arith, ap length (kept_all bs a bytes), kept_length bs a bytes, a.few_records);
  modules = modules_fit (map block_record (record_blocks bs))
      (records_fit (record_blocks bs) (pieces 18 (record_count bs) (drop (records_start bs) bs) (rw length-drop (omega (arith, a.size))) (bytes_drop (records_start bs) bs bytes)))
      0 (record_count bs) (module_blocks bs)
      (pieces 24 (module_count bs) (drop 16 bs) (rw length-drop (omega (arith, a.size))) (bytes_drop 16 bs bytes)) a.modules;
}

-- from a meaning to its card and back

module _ (first count total : ℕ) (few : total ≤ 32768) (h : first + count ≤ total) where
  count_fits : Fits32 count
  count_fits = omega arith

sized_modules : (first : ℕ) (ss : List Scanned) → AllByRecursion (Sized 24) (encode_modules first ss)
sized_modules first [] = tt
sized_modules first (s ∷ ss) = (length_module_block s.described first (length s.records), sized_modules (first + length s.records) ss)

sized_records : (rs : List ImportRecord) → AllByRecursion (Sized 18) (map encode_record rs)
sized_records [] = tt
sized_records (r ∷ rs) = (length_record_block r, sized_records rs)

length_encode_modules : (first : ℕ) (ss : List Scanned) → length (encode_modules first ss) ≡ length ss
length_encode_modules first [] = refl
length_encode_modules first (s ∷ ss) = ap suc (length_encode_modules (first + length s.records) ss)

pub modules_length : (first : ℕ) (ss : List Scanned) → length (concat (encode_modules first ss)) ≡ 24 * length ss
modules_length first ss = length_flat 24 (encode_modules first ss) (sized_modules first ss) ∙ ap (λ (n : ℕ). 24 * n) (length_encode_modules first ss)

pub records_length : (rs : List ImportRecord) → length (concat (map encode_record rs)) ≡ 18 * length rs
records_length rs = length_flat 18 (map encode_record rs) (sized_records rs) ∙ ap (λ (n : ℕ). 18 * n) (length-map rs encode_record)

pub head_length : (w : Meaning) → length (encode_head w) ≡ 16
unfolding le2 le4
head_length w = refl

pub encode_length : (w : Meaning) → length (encode w) ≡ 16 + 24 * length w.modules + 18 * length (all_records w.modules)
encode_length w =
    let ms = concat (encode_modules 0 w.modules) in
    let rs = concat (map encode_record (all_records w.modules)) in
    length-append (encode_head w) (ms ++ rs)
    ∙ omega (arith, head_length w, length-append ms rs, modules_length 0 w.modules, records_length (all_records w.modules))

right_records : (rs : List ImportRecord) → AllByRecursion RecordBlock (map encode_record rs)
right_records [] = tt
right_records (r ∷ rs) =
    (record { head = record_head_right (record_fields r); fields = ap record_wrong (fields_back 18 3 (record_fields r)) ∙ record_right r }, right_records rs)

records_decoded : (rs : List ImportRecord) → AllByRecursion RecordFits rs → map block_record (map encode_record rs) ≡ rs
records_decoded [] h = refl
records_decoded (r ∷ rs) (here, rest) =
    ap (λ (x : ImportRecord). x ∷ map block_record (map encode_record rs)) (ap record_of (fields_back 18 3 (record_fields r)) ∙ record_decoded r here)
    ∙ ap (λ (x : List ImportRecord). r ∷ x) (records_decoded rs rest)

all_fit : (ss : List Scanned) → AllByRecursion ModuleFits ss → AllByRecursion RecordFits (all_records ss)
all_fit [] h = tt
all_fit (s ∷ ss) (here, rest) = All-append RecordFits s.records (all_records ss) here.records (all_fit ss rest)

-- the block of one module, whose records begin at `first`
module _ (s : Scanned) (first : ℕ) (fits : ModuleFits s) (ff : Fits32 first) (cf : Fits32 (length s.records)) where
  abbrev its : List ℕ
  its = module_fields s.described first (length s.records)

  block_first : first_of (fields_of (block 24 2 its)) ≡ first
  block_first = ap first_of (fields_back 24 2 its) ∙ first_decoded s.described first (length s.records) ff

  block_count : count_of (fields_of (block 24 2 its)) ≡ length s.records
  block_count = ap count_of (fields_back 24 2 its) ∙ count_decoded s.described first (length s.records) cf

  block_right : ModuleBlock first (block 24 2 its)
  block_right = record {
    head = head_right its;
    fields = ap module_wrong (fields_back 24 2 its) ∙ module_right s.described first (length s.records) (λ e. ap length (fits.blank e));
    first = block_first;
  }

  block_back : (all : List ImportRecord) → take (length s.records) (drop first all) ≡ s.records → block_scanned all (block 24 2 its) ≡ s
  block_back all e =
      same_scanned _ s.described _ s.records
      (ap module_of (fields_back 24 2 its) ∙ module_decoded s.described first (length s.records) fits.start fits.end)
      (ap (λ (n : ℕ). take n (drop (first_of (fields_of (block 24 2 its))) all)) block_count
      ∙ ap (λ (n : ℕ). take (length s.records) (drop n all)) block_first ∙ e)
    where
      same_scanned : (d d' : Module) (rs rs' : List ImportRecord) → d ≡ d' → rs ≡ rs' → ◌≡◌ {A = Scanned} (record { described = d; records = rs }) (record { described = d'; records = rs' })
      same_scanned d d' rs rs' ed er = cc

chained_modules : (first total : ℕ) (ss : List Scanned) → total ≤ 32768 → first + length (all_records ss) ≡ total → AllByRecursion ModuleFits ss → Chained first (encode_modules first ss) total
chained_modules first total [] few e h = sym (add-zero first) ∙ e
chained_modules first total (s ∷ ss) few e (here, rest) =
    let sum : length (all_records (s ∷ ss)) ≡ length s.records + length (all_records ss) = length-append s.records (all_records ss) in
    let ff : Fits32 first = omega arith in
    let cf : Fits32 (length s.records) = omega arith in (
      block_right s first here ff cf,
      subst (λ (n : ℕ). Chained (first + n) (encode_modules (first + length s.records) ss) total) (sym (block_count s first here ff cf))
          (chained_modules (first + length s.records) total ss few (omega arith) rest),
    )

modules_decoded : (before : List ImportRecord) (first total : ℕ) (ss : List Scanned) → total ≤ 32768 → length before ≡ first → first + length (all_records ss) ≡ total → AllByRecursion ModuleFits ss → map (block_scanned (before ++ all_records ss)) (encode_modules first ss) ≡ ss
modules_decoded before first total [] few b e h = refl
modules_decoded before first total (s ∷ ss) few b e (here, rest) =
    let sum : length (all_records (s ∷ ss)) ≡ length s.records + length (all_records ss) = length-append s.records (all_records ss) in
    let ff : Fits32 first = omega arith in
    let cf : Fits32 (length s.records) = omega arith in
    let its : take (length s.records) (drop first (before ++ (s.records ++ all_records ss))) ≡ s.records =
    ap (take (length s.records)) (drop_at before (s.records ++ all_records ss) first b) ∙ take_at s.records (all_records ss) (length s.records) refl in
    ap (λ (x : Scanned). x ∷ map (block_scanned (before ++ (s.records ++ all_records ss))) (encode_modules (first + length s.records) ss))
    (block_back s first here ff cf (before ++ (s.records ++ all_records ss)) its)
    ∙ ap (λ (x : List ImportRecord). s ∷ map (block_scanned x) (encode_modules (first + length s.records) ss)) (sym (append_assoc before s.records (all_records ss)))
    ∙ ap (λ (x : List Scanned). s ∷ x)
    (modules_decoded (before ++ s.records) (first + length s.records) total ss few (length-append before s.records ∙ ap (λ (n : ℕ). n + length s.records) b) (omega arith) rest)

module _ (w : Meaning) (fits : Writable w) where
  abbrev every : List ImportRecord
  every = all_records w.modules

  abbrev module_part : List (List ℕ)
  module_part = encode_modules 0 w.modules

  abbrev record_part : List (List ℕ)
  record_part = map encode_record every

  written_runtime : u32_le (encode w) 4 ≡ w.runtime
  unfolding u32_le le2 le4
  written_runtime = four w.runtime fits.runtime

  written_count : module_count (encode w) ≡ length w.modules
  unfolding u32_le le2 le4
  written_count = four (length w.modules) (omega (arith, fits.few_modules))

  written_records : record_count (encode w) ≡ length every
  unfolding u32_le le2 le4
  written_records = four (length every) (omega (arith, fits.few_records))

  written_head : head_wrong 16 1 (encode w) ≡ false
  unfolding u16_le le2
  written_head = refl

  after_head : drop 16 (encode w) ≡ concat module_part ++ concat record_part
  unfolding le2 le4
  after_head = refl

  written_modules : module_blocks (encode w) ≡ module_part
  written_modules =
      ap (λ (n : ℕ). first_chunks 24 n (drop 16 (encode w))) (written_count ∙ sym (length_encode_modules 0 w.modules))
      ∙ ap (first_chunks 24 (length module_part)) after_head
      ∙ cut_flat 24 module_part (concat record_part) (sized_modules 0 w.modules)

  after_modules : drop (records_start (encode w)) (encode w) ≡ concat record_part ++ []
  after_modules =
      sym (drop-drop (24 * module_count (encode w)) 16 (encode w))
      ∙ ap (drop (24 * module_count (encode w))) after_head
      ∙ drop_at (concat module_part) (concat record_part) (24 * module_count (encode w)) (omega (arith, modules_length 0 w.modules, written_count))
      ∙ sym (append-nil (concat record_part))

  written_record_blocks : record_blocks (encode w) ≡ record_part
  written_record_blocks =
      ap (λ (n : ℕ). first_chunks 18 n (drop (records_start (encode w)) (encode w))) (written_records ∙ sym (length-map every encode_record))
      ∙ ap (first_chunks 18 (length record_part)) after_modules
      ∙ cut_flat 18 record_part [] (sized_records every)

  pub written_accepted : Accepted (encode w)
  written_accepted = record {
    head = written_head;
    few_modules = omega (arith, written_count, fits.few_modules);
    few_records = omega (arith, written_records, fits.few_records);
    size = omega (arith, encode_length w, written_count, written_records);
    modules = subst (λ (bs : List (List ℕ)). Chained 0 bs (record_count (encode w))) (sym written_modules)
        (chained_modules 0 (record_count (encode w)) w.modules (omega (arith, written_records, fits.few_records)) (omega (arith, written_records)) fits.modules);
    records = subst (AllByRecursion RecordBlock) (sym written_record_blocks) (right_records every);
  }

  pub decoded : card_meaning (encode w) ≡ w
  decoded =
      same_meaning _ w.runtime _ w.modules written_runtime
      (ap (λ (bs : List (List ℕ)). map (block_scanned (map block_record (record_blocks (encode w)))) bs) written_modules
      ∙ ap (λ (bs : List (List ℕ)). map (block_scanned (map block_record bs)) module_part) written_record_blocks
      ∙ ap (λ (rs : List ImportRecord). map (block_scanned rs) module_part) (records_decoded every (all_fit w.modules fits.modules))
      ∙ modules_decoded [] 0 (length every) w.modules fits.few_records refl (omega arith) fits.modules)
    where
      same_meaning : (r r' : ℕ) (ss ss' : List Scanned) → r ≡ r' → ss ≡ ss' → ◌≡◌ {A = Meaning} (record { runtime = r; modules = ss }) (record { runtime = r'; modules = ss' })
      same_meaning r r' ss ss' er es = cc

-- the card of a meaning opens as that meaning
pub opened : (w : Meaning) → Writable w → card_opened (encode w) ≡ w
opened w fits =
    cond-true (is_card (encode w)) (card_meaning (encode w)) no_modules (ap is_ok (accepted_to (encode w) (written_accepted w fits)))
    ∙ decoded w fits

-- accepted is exactly: some writable meaning has these bytes
pub exact : (bs : List ℕ) → Bytes bs → Exact bs (card_verdict bs)
exact bs bytes = record {
  held = λ e. let a = accepted_from bs (ap is_ok e) in (readable bs a bytes, encoded bs a bytes);
  only = λ w fits e. (ap card_verdict (sym e) ∙ accepted_to (encode w) (written_accepted w fits), ap card_meaning (sym e) ∙ decoded w fits);
}
