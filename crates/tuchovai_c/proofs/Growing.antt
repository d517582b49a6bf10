-- One more row: what the bytes so far come to.
use Rattle.std.proofs.Common.{◌≡◌, ℕ, ◌+◌, ◌/◌, ◌%◌, ◌<◌, List, [], ◌∷◌, ◌++◌, map, length, get_or, take, w64, sym, ap, ◌∙◌, arith}
use Rattle.std.proofs.lemmas.List.{append-nil, append_assoc, take_more, map_push}
use Rattle.std.specs.Int.{to_le_bytes}
use Rattle.card.specs.Bytes.{le4}
use Rattle.card_writer.proofs.Spelled.{concat-push}
use Rattle.std.specs.List.{concat}

-- a number of eight bytes, as its lower and its higher half
pub spelled8 : (xs : List ℕ) (n : ℕ) → xs ≡ to_le_bytes w64 n → get_or xs 0 0 ∷ get_or xs 1 0 ∷ get_or xs 2 0 ∷ get_or xs 3 0 ∷ get_or xs 4 0 ∷ get_or xs 5 0 ∷ get_or xs 6 0 ∷ get_or xs 7 0 ∷ [] ≡ le4 (n % 4294967296) ++ le4 (n / 4294967296)
unfolding le4
spelled8 xs n e =
    let b0 : n % 4294967296 % 256 ≡ n % 256 = omega arith in
    let b1 : n % 4294967296 / 256 % 256 ≡ n / 256 % 256 = omega arith in
    let b2 : n % 4294967296 / 65536 % 256 ≡ n / 65536 % 256 = omega arith in
    let b3 : n % 4294967296 / 16777216 % 256 ≡ n / 16777216 % 256 = omega arith in
    let b5 : n / 4294967296 / 256 ≡ n / 1099511627776 = omega arith in
    let b6 : n / 4294967296 / 65536 ≡ n / 281474976710656 = omega arith in
    let b7 : n / 4294967296 / 16777216 ≡ n / 72057594037927936 = omega arith in
    rw e (cc)

-- the first i rows are written after what stood there
abbrev pub Put : {A : Type 0} → (A → List ℕ) → List A → ℕ → List ℕ → List ℕ → Type 0
Put f rows i old held = held ≡ old ++ concat (map f (take i rows))

pub put_none : {A : Type 0} (f : A → List ℕ) (rows : List A) (old : List ℕ) → Put f rows 0 old old
put_none f rows old = sym (append-nil old)

pub put_more : {A : Type 0} (f : A → List ℕ) (rows : List A) (i : ℕ) (d : A) (old held new b : List ℕ) → i < length rows → Put f rows i old held → b ≡ f (get_or rows i d) → new ≡ held ++ b → Put f rows (i + 1) old new
put_more f rows i d old held new b lt e is en =
    let before = map f (take i rows) in
    let grown : concat (map f (take (i + 1) rows)) ≡ concat before ++ f (get_or rows i d) =
    ap (λ x. concat (map f x)) (take_more rows i d lt) ∙ ap concat (map_push f (take i rows) (get_or rows i d)) ∙ concat-push before (f (get_or rows i d)) in
    en
    ∙ ap (λ (x : List ℕ). x ++ b) e
    ∙ append_assoc old (concat before) b
    ∙ ap (λ (x : List ℕ). old ++ (concat before ++ x)) is
    ∙ ap (λ (x : List ℕ). old ++ x) (sym grown)

-- four parts, written one after another into what was empty
pub four_parts : (start head head' a b d after_head after-a after-b : List ℕ) {all : List ℕ} → start ≡ [] → after_head ≡ start ++ head → head ≡ head' → after-a ≡ after_head ++ a → after-b ≡ after-a ++ b → all ≡ after-b ++ d → all ≡ head' ++ (a ++ (b ++ d))
four_parts start head head' a b d after_head after-a after-b e0 e1 e e2 e3 e4 =
    let begun : after_head ≡ head' = e1 ∙ ap (λ (x : List ℕ). x ++ head) e0 ∙ e in
    e4
    ∙ ap (λ (x : List ℕ). x ++ d) (e3 ∙ ap (λ (x : List ℕ). x ++ b) (e2 ∙ ap (λ (x : List ℕ). x ++ a) begun))
    ∙ append_assoc (head' ++ a) b d
    ∙ append_assoc head' a (b ++ d)
