-- What a number's and a span's text are read as. Assumes nothing.
use Rattle.std.proofs.Common.{◌≡◌, ℕ, ◌^◌, ◌<◌, Bool, cond, List, ◌∷◌, ◌++◌, length, get_or, drop, Some, None, Ok, Err, Option, Result, ap, subst, arith, lit<, Bor, MatchOption}
use Rattle.std.proofs.lemmas.Str.Parse.{digit_at}
use Rattle.std.proofs.lemmas.Str.Pattern.{IsSplitOnceResult, split_after}
use Rattle.std.proofs.lemmas.Bool.{ne_eqb}
use Rattle.std.specs.Str.Parse.{IsNumeral, ParsesUnsigned, without_leading_plus, digits_value}
use Rattle.std.specs.Result.{result_ok}
use Rattle.table_words.specs.Numbers.{Numbered}

unsigned : (text : List ℕ) → (get_or text 0 0 ≡ 43 → ⊥) → without_leading_plus text ≡ text
unsigned text ne = ap (λ (b : Bool). drop (cond b 1 0) text) (ne_eqb (get_or text 0 0) 43 ne)

as_read : {E : Type 0} (text : List ℕ) (r : Result ℕ E) → without_leading_plus text ≡ text → ParsesUnsigned 32 10 text r → Numbered text (result_ok r)
as_read text (Ok n) e h = subst (λ (t : List ℕ). IsNumeral 10 t × (digits_value 10 t < 2 ^ 32) × (n ≡ digits_value 10 t)) e (h.0.0, h.0.1, h.1)
as_read text (Err f) e h = subst (λ (t : List ℕ). IsNumeral 10 t → digits_value 10 t < 2 ^ 32 → ⊥) e (λ num small. h (num, small))

pub numbered : {E : Type 0} (text : List ℕ) (r : Result ℕ E) → (get_or text 0 0 ≡ 43 → ⊥) → ParsesUnsigned 32 10 text r → Numbered text (result_ok r)
numbered text r ne h = as_read text r (unsigned text ne) h

pub not_both : (text : List ℕ) (n : ℕ) → Numbered text None → Numbered text (Some n) → ⊥
not_both text n none some = none some.0 some.1

no_dot : (text : List ℕ) (n : ℕ) → Numbered text (Some n) → (i : ℕ) → i < length text → get_or text i 0 ≡ 46 → ⊥
no_dot text n h i lt e = let d = digit_at text i h.0.1 lt in omega arith

-- a text that is a span is split at its first dot
pub split_span : (text : List ℕ) (r : Option (Bor (List ℕ) × Bor (List ℕ))) → IsSplitOnceResult 46 text r → (start end : List ℕ) (m : ℕ) → text ≡ start ++ (46 ∷ (46 ∷ end)) → Numbered start (Some m) → MatchOption r ⊥ (λ x. (x.0.now ≡ start) × (x.1.now ≡ 46 ∷ end))
split_span text r h start end m e n = split_after 46 text start (46 ∷ end) r h (lit< tt) e (no_dot start m n)

pub cons_tail : {x y : ℕ} {xs ys : List ℕ} → x ∷ xs ≡ y ∷ ys → xs ≡ ys
cons_tail e = cc
