-- The bytes of a number, one by one, and fields and blocks put together.
use Rattle.std.proofs.Common.{◌≡◌, ℕ, Bool, true, false, List, [], ◌∷◌, ◌++◌, get_or, Some, None, Option, unwrap_or, w16, w32, sym, refl, ap, ◌∙◌}
use Rattle.std.specs.Int.{from_bool, to_le_bytes}
use Rattle.std.specs.List.{concat}
use Rattle.std.proofs.lemmas.List.{append-nil, append_assoc}
use Rattle.card.specs.Bytes.{le2, le4}
use Rattle.card.specs.Fields.{bit, target_number}

pub spelled4 : (xs : List ℕ) (n : ℕ) → xs ≡ to_le_bytes w32 n → get_or xs 0 0 ∷ get_or xs 1 0 ∷ get_or xs 2 0 ∷ get_or xs 3 0 ∷ [] ≡ le4 n
unfolding le4
spelled4 xs n e = ap (λ (x : List ℕ). get_or x 0 0 ∷ get_or x 1 0 ∷ get_or x 2 0 ∷ get_or x 3 0 ∷ []) e

pub spelled2 : (xs : List ℕ) (n : ℕ) → xs ≡ to_le_bytes w16 n → get_or xs 0 0 ∷ get_or xs 1 0 ∷ [] ≡ le2 n
unfolding le2
spelled2 xs n e = ap (λ (x : List ℕ). get_or x 0 0 ∷ get_or x 1 0 ∷ []) e

pub bit_of_bool : (b : Bool) → from_bool b ≡ bit b
bit_of_bool true = refl
bit_of_bool false = refl

pub target_or_none : (o : Option ℕ) → unwrap_or o 4294967295 ≡ target_number o
target_or_none (Some t) = refl
target_or_none None = refl

pub two_more : {a a' b b' : List ℕ} → a ≡ a' → b ≡ b' → a ++ b ≡ a' ++ b'
two_more ea eb = cc

pub begun : {k k' s s' : ℕ} {a a' : List ℕ} → k ≡ k' → s ≡ s' → a ≡ a' → k ∷ s ∷ a ≡ k' ∷ s' ∷ a'
begun ek es ea = cc

pub concat-append : (a b : List (List ℕ)) → concat (a ++ b) ≡ concat a ++ concat b
concat-append [] b = refl
concat-append (x ∷ a) b = ap (λ (y : List ℕ). x ++ y) (concat-append a b) ∙ sym (append_assoc x (concat a) (concat b))

pub concat-push : (bs : List (List ℕ)) (b : List ℕ) → concat (bs ++ b ∷ []) ≡ concat bs ++ b
concat-push bs b = concat-append bs (b ∷ []) ∙ ap (λ (x : List ℕ). concat bs ++ x) (append-nil b)
