-- That a look-up by offset finds the module and its records.
use Rattle.std.proofs.Common.{◌≡◌, ℕ, zero, suc, ◌+◌, ◌*◌, ◌<◌, ◌≤◌, List, [], ◌∷◌, map, length, get_or, take, drop, sym, refl, ap, ◌∙◌, subst, arith}
use Rattle.std.proofs.lemmas.List.{length-map, length-take, length-drop, get_or-map, get_or-take, get_or-drop, get_or_past}
use Rattle.source.specs.declared.ImportRecord.{ImportRecord}
use Rattle.source.specs.Meaning.{Scanned, past_modules, past_records, scanned_at, count_of as modules-in}
use Rattle.card.specs.Fields.{first_of, count_of}
use Rattle.card.specs.Cards.{fields_of, block_record, block_scanned, card_meaning, module_count, module_blocks, record_count, records_start, record_blocks}
use Rattle.card.specs.Accepted.{Chained, Accepted}
use Rattle.card.specs.Found.{FoundModule}
use Rattle.card.proofs.Cuts.{length_cut, module_block_at, record_block_at}

pub chained_le : (next : ℕ) (bs : List (List ℕ)) (end : ℕ) → Chained next bs end → next ≤ end
chained_le next [] end h = omega arith
chained_le next (b ∷ bs) end (here, rest) = omega (arith, chained_le (next + count_of (fields_of b)) bs end rest)

pub chained_within : (next : ℕ) (bs : List (List ℕ)) (end : ℕ) → Chained next bs end → (k : ℕ) → k < length bs → first_of (fields_of (get_or bs k [])) + count_of (fields_of (get_or bs k [])) ≤ end
chained_within next [] end h k lt = absurd (omega arith)
chained_within next (b ∷ bs) end (here, rest) zero lt = omega (arith, here.first, chained_le (next + count_of (fields_of b)) bs end rest)
chained_within next (b ∷ bs) end (here, rest) (suc k) lt = chained_within (next + count_of (fields_of b)) bs end rest k (omega arith)

pub card_modules : (bs : List ℕ) → modules-in (card_meaning bs) ≡ module_count bs
card_modules bs = length-map (module_blocks bs) (block_scanned (map block_record (record_blocks bs))) ∙ length_cut 24 (module_count bs) (drop 16 bs)

pub card_past : (bs : List ℕ) (m : ℕ) → module_count bs ≤ m → scanned_at (card_meaning bs) m ≡ past_modules
card_past bs m h = get_or_past (card_meaning bs).modules m past_modules (omega (arith, card_modules bs))

-- the records of a module, taken from all of them
module _ (all : List ImportRecord) (first count total : ℕ) (sized : length all ≡ total) (h : first + count ≤ total) where
  pub taken_length : length (take count (drop first all)) ≡ count
  taken_length = simp (length-take, length-drop) (omega arith)

  taken_at : (k : ℕ) → k < count → get_or (take count (drop first all)) k past_records ≡ get_or all (first + k) past_records
  taken_at k lt = get_or-take count (drop first all) k past_records lt ∙ get_or-drop first all k past_records

-- the block at m, of a card that is accepted
module _ (bs : List ℕ) (a : Accepted bs) (m : ℕ) (lt : m < module_count bs) where
  abbrev all : List ImportRecord
  all = map block_record (record_blocks bs)

  all_length : length all ≡ record_count bs
  all_length = length-map (record_blocks bs) block_record ∙ length_cut 18 (record_count bs) (drop (records_start bs) bs)

  in_blocks : m < length (module_blocks bs)
  in_blocks = rw length_cut lt

  abbrev found : List ℕ → Type 0
  found b = FoundModule bs m (fields_of b)

  scanned_here : scanned_at (card_meaning bs) m ≡ block_scanned all (get_or (module_blocks bs) m [])
  scanned_here = get_or-map (block_scanned all) (module_blocks bs) m [] past_modules in_blocks

  found_block : length (fields_of (get_or (module_blocks bs) m [])) ≡ 20 → found (get_or (module_blocks bs) m [])
  found_block size =
      let f = fields_of (get_or (module_blocks bs) m []) in
      let within = chained_within 0 (module_blocks bs) (record_count bs) a.modules m in_blocks in
      record {
        sized = size;
        described = ap (λ (s : Scanned). s.described) scanned_here;
        counted = ap (λ (s : Scanned). length s.records) scanned_here ∙ taken_length all (first_of f) (count_of f) (record_count bs) all_length within;
        within = within;
        placed = λ k h.
            let r : first_of f + k < record_count bs = omega arith in
            ap (λ (s : Scanned). get_or s.records k past_records) scanned_here
            ∙ taken_at all (first_of f) (count_of f) (record_count bs) all_length within k h
            ∙ get_or-map block_record (record_blocks bs) (first_of f + k) [] past_records (rw length_cut r)
            ∙ ap block_record (record_block_at bs (first_of f + k) (records_start bs + 18 * (first_of f + k)) r refl);
      }

  pub found_module : (f : List ℕ) → f ≡ fields_of (take 24 (drop (16 + 24 * m) bs)) → length f ≡ 20 → FoundModule bs m f
  found_module f e size =
      let same = module_block_at bs m (16 + 24 * m) lt refl in
      let is : f ≡ fields_of (get_or (module_blocks bs) m []) = e ∙ ap fields_of (sym same) in
      subst (FoundModule bs m) (sym is) (found_block (ap length (sym is) ∙ size))
