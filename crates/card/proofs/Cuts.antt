-- A list cut into pieces of one size: how many there are, and which bytes each has.
use Rattle.std.proofs.Common.{◌≡◌, ℕ, zero, suc, ◌+◌, ◌*◌, ◌<◌, List, [], ◌∷◌, length, get_or, take, drop, sym, refl, ap, ◌∙◌, add-zero, mul-zero, mul-suc, lit<, w16, w32, arith}
use Rattle.std.proofs.lemmas.List.{drop-drop, drop-take, get_or-take, get_or-drop, take-take}
use Rattle.std.specs.Int.{from_le_bytes}
use Rattle.std.specs.Simd.{first_chunks}
use Rattle.card.specs.Bytes.{u16_le, u32_le}
use Rattle.card.specs.Cards.{module_count, module_blocks, record_count, records_start, record_blocks}

pub length_cut : (size n : ℕ) (bs : List ℕ) → length (first_chunks size n bs) ≡ n
length_cut size zero bs = refl
length_cut size (suc n) bs = ap suc (length_cut size n (drop size bs))

pub getD_cut : (size n k at : ℕ) (bs : List ℕ) → k < n → size * k ≡ at → get_or (first_chunks size n bs) k [] ≡ take size (drop at bs)
getD_cut size zero k at bs h e = absurd (omega arith)
getD_cut size (suc n) zero at bs h e = ap (λ (j : ℕ). take size (drop j bs)) (sym (mul-zero size) ∙ e)
getD_cut size (suc n) (suc k) at bs h e =
    getD_cut size n k (size * k) (drop size bs) (omega arith) refl
    ∙ ap (take size) (drop-drop (size * k) size bs)
    ∙ ap (λ (j : ℕ). take size (drop j bs)) (omega (arith, mul-suc size k))

-- a byte of a part
read_part : (at n : ℕ) (bs part : List ℕ) → part ≡ take n (drop at bs) → (k : ℕ) → k < n → get_or part k 0 ≡ get_or bs (at + k) 0
read_part at n bs part e k lt = ap (λ (x : List ℕ). get_or x k 0) e ∙ get_or-take n (drop at bs) k 0 lt ∙ get_or-drop at bs k 0

pub u16_read : (at : ℕ) (bs part : List ℕ) → part ≡ take 2 (drop at bs) → from_le_bytes w16 part ≡ u16_le bs at
unfolding u16_le
u16_read at bs part e =
    let e0 : get_or part 0 0 ≡ get_or bs at 0 = read_part at 2 bs part e 0 (lit< tt) ∙ ap (λ (k : ℕ). get_or bs k 0) (add-zero at) in
    let e1 : get_or part 1 0 ≡ get_or bs (at + 1) 0 = read_part at 2 bs part e 1 (lit< tt) in
    cc

pub u32_read : (at : ℕ) (bs part : List ℕ) → part ≡ take 4 (drop at bs) → from_le_bytes w32 part ≡ u32_le bs at
unfolding u32_le
u32_read at bs part e =
    let e0 : get_or part 0 0 ≡ get_or bs at 0 = read_part at 4 bs part e 0 (lit< tt) ∙ ap (λ (k : ℕ). get_or bs k 0) (add-zero at) in
    let e1 : get_or part 1 0 ≡ get_or bs (at + 1) 0 = read_part at 4 bs part e 1 (lit< tt) in
    let e2 : get_or part 2 0 ≡ get_or bs (at + 2) 0 = read_part at 4 bs part e 2 (lit< tt) in
    let e3 : get_or part 3 0 ≡ get_or bs (at + 3) 0 = read_part at 4 bs part e 3 (lit< tt) in
    cc

-- as many as there are whole pieces of a part of the right length
pub chunks_of_part : (size n : ℕ) (bs : List ℕ) → first_chunks size n (take (size * n) bs) ≡ first_chunks size n bs
chunks_of_part size zero bs = refl
chunks_of_part size (suc n) bs =
    let more : size * suc n ≡ size + size * n = omega (arith, mul-suc size n) in
    ap (λ (k : ℕ). take size (take k bs) ∷ first_chunks size n (drop size (take k bs))) more
    ∙ ap (λ (x : List ℕ). x ∷ first_chunks size n (drop size (take (size + size * n) bs))) (take-take size (size + size * n) bs (omega arith))
    ∙ ap (λ (x : List ℕ). take size bs ∷ first_chunks size n x) (drop-take size (size * n) bs)
    ∙ ap (λ (x : List (List ℕ)). take size bs ∷ x) (chunks_of_part size n (drop size bs))

-- a block without its length and kind, read where it lies
pub fields_part : (at size : ℕ) (bs : List ℕ) → take size (drop (at + 4) bs) ≡ drop 4 (take (4 + size) (drop at bs))
fields_part at size bs = ap (take size) (sym (drop-drop 4 at bs)) ∙ sym (drop-take 4 size (drop at bs))

module _ (bs : List ℕ) where
  pub module_block_at : (m at : ℕ) → m < module_count bs → 16 + 24 * m ≡ at → get_or (module_blocks bs) m [] ≡ take 24 (drop at bs)
  module_block_at m at h e =
      getD_cut 24 (module_count bs) m (24 * m) (drop 16 bs) h refl
      ∙ ap (take 24) (drop-drop (24 * m) 16 bs ∙ ap (λ (j : ℕ). drop j bs) e)

  pub record_block_at : (r at : ℕ) → r < record_count bs → records_start bs + 18 * r ≡ at → get_or (record_blocks bs) r [] ≡ take 18 (drop at bs)
  record_block_at r at h e =
      getD_cut 18 (record_count bs) r (18 * r) (drop (records_start bs) bs) h refl
      ∙ ap (take 18) (drop-drop (18 * r) (records_start bs) bs ∙ ap (λ (j : ℕ). drop j bs) e)
