-- A number and its bytes, there and back.
use Rattle.std.proofs.Common.{◌≡◌, ℕ, ◌+◌, ◌*◌, ◌/◌, ◌%◌, ◌<◌, Bool, true, false, eqb, List, [], ◌∷◌, get_or, sym, refl, ap, ◌∙◌, ⊎_elim, arith}
use Rattle.std.proofs.lemmas.Nat.{shr-shr, mod-mul-add, div-mul-add}
use Rattle.std.proofs.lemmas.Bool.{eq-eqb, ne_eqb, cases_eq}
use Rattle.card.specs.Bytes.{u16_le, u32_le, le2, le4}
use Rattle.card.specs.Fields.{bit, flag_of}

-- the higher bytes, one division by 256 after another
by65536 : (n : ℕ) → n / 65536 ≡ n / 256 / 256
by65536 n = sym (shr-shr n 8 8)

by16777216 : (n : ℕ) → n / 16777216 ≡ n / 256 / 256 / 256
by16777216 n = sym (shr-shr n 8 16) ∙ by65536 (n / 256)

pub four : (n : ℕ) → n < 4294967296 → n % 256 + n / 256 % 256 * 256 + n / 65536 % 256 * 65536 + n / 16777216 % 256 * 16777216 ≡ n
four n h = rw (by65536 n, by16777216 n) (omega arith)

pub two : (n : ℕ) → n < 65536 → n % 256 + n / 256 % 256 * 256 ≡ n
two n h = omega arith

low : (n q b : ℕ) → b < 256 → n ≡ q * 256 + b → n % 256 ≡ b
low n q b h e = ap (λ (x : ℕ). x % 256) e ∙ mod-mul-add q 256 b h

high : (n q b : ℕ) → b < 256 → n ≡ q * 256 + b → n / 256 ≡ q
high n q b h e = ap (λ (x : ℕ). x / 256) e ∙ div-mul-add q 256 b h

module _ (a b c d : ℕ) (ha : a < 256) (hb : b < 256) (hc : c < 256) (hd : d < 256) where
  digits4 : le4 (a + b * 256 + c * 65536 + d * 16777216) ≡ a ∷ b ∷ c ∷ d ∷ []
  unfolding le4
  digits4 =
      let n : ℕ = a + b * 256 + c * 65536 + d * 16777216 in
      let e0 : n % 256 ≡ a = low n (b + c * 256 + d * 65536) a ha (omega arith) in
      let q1 : n / 256 ≡ b + c * 256 + d * 65536 = high n (b + c * 256 + d * 65536) a ha (omega arith) in
      let e1 : n / 256 % 256 ≡ b = low (n / 256) (c + d * 256) b hb (omega (arith, q1)) in
      let q2 : n / 256 / 256 ≡ c + d * 256 = high (n / 256) (c + d * 256) b hb (omega (arith, q1)) in
      let e2 : n / 65536 % 256 ≡ c = rw (by65536 n) (low (n / 256 / 256) d c hc (omega (arith, q2))) in
      let q3 : n / 256 / 256 / 256 ≡ d = high (n / 256 / 256) d c hc (omega (arith, q2)) in
      let e3 : n / 16777216 % 256 ≡ d = rw (by16777216 n) (low (n / 256 / 256 / 256) 0 d hd (omega (arith, q3))) in
      cc

digits2 : (a b : ℕ) → a < 256 → b < 256 → le2 (a + b * 256) ≡ a ∷ b ∷ []
unfolding le2
digits2 a b ha hb =
    let n : ℕ = a + b * 256 in
    let e0 : n % 256 ≡ a = low n b a ha (omega arith) in
    let q1 : n / 256 ≡ b = high n b a ha (omega arith) in
    let e1 : n / 256 % 256 ≡ b = low (n / 256) 0 b hb (omega (arith, q1)) in
    cc

-- the bytes of a list from an offset on
abbrev pub Bytes : List ℕ → Type 0
Bytes f = (k : ℕ) → get_or f k 0 < 256

pub le4_back : (f : List ℕ) → Bytes f → (at : ℕ) → le4 (u32_le f at) ≡ get_or f at 0 ∷ get_or f (at + 1) 0 ∷ get_or f (at + 2) 0 ∷ get_or f (at + 3) 0 ∷ []
unfolding u32_le
le4_back f b at = digits4 (get_or f at 0) (get_or f (at + 1) 0) (get_or f (at + 2) 0) (get_or f (at + 3) 0) (b at) (b (at + 1)) (b (at + 2)) (b (at + 3))

pub le2_back : (f : List ℕ) → Bytes f → (at : ℕ) → le2 (u16_le f at) ≡ get_or f at 0 ∷ get_or f (at + 1) 0 ∷ []
unfolding u16_le
le2_back f b at = digits2 (get_or f at 0) (get_or f (at + 1) 0) (b at) (b (at + 1))

pub u32_fits : (f : List ℕ) → Bytes f → (at : ℕ) → u32_le f at < 4294967296
unfolding u32_le
u32_fits f b at = omega (arith, b at, b (at + 1), b (at + 2), b (at + 3))

bit_below : (x : Bool) → bit x < 2
bit_below true = omega arith
bit_below false = omega arith

pub bit_is : (x : Bool) → eqb (bit x) 1 ≡ x
bit_is true = refl
bit_is false = refl

zero_of : (n : ℕ) → n < 2 → (n ≡ 1 → ⊥) → n ≡ 0
zero_of n h ne = omega arith

pub bit_of : (n : ℕ) → n < 2 → bit (eqb n 1) ≡ n
bit_of n h = ⊎_elim
    (λ (e : n ≡ 1). ap bit (eq-eqb n 1 e) ∙ sym e)
    (λ (ne : n ≡ 1 → ⊥). ap bit (ne_eqb n 1 ne) ∙ (let z : n ≡ 0 = zero_of n h ne in sym z))
    (cases_eq n 1)

-- the five flags
module _ (a b c d e : Bool) where
  abbrev all : ℕ
  all = bit a + 2 * bit b + 4 * bit c + 8 * bit d + 16 * bit e

  abbrev read : ℕ
  read = all % 256 + all / 256 % 256 * 256

  flag_at : (place : ℕ) (x : Bool) → read / place % 2 ≡ bit x → flag_of read place ≡ x
  flag_at place x h = ap (λ (n : ℕ). eqb n 1) h ∙ bit_is x

  pub flag1 : flag_of read 1 ≡ a
  flag1 = flag_at 1 a (omega (arith, bit_below a, bit_below b, bit_below c, bit_below d, bit_below e))

  pub flag2 : flag_of read 2 ≡ b
  flag2 = flag_at 2 b (omega (arith, bit_below a, bit_below b, bit_below c, bit_below d, bit_below e))

  pub flag4 : flag_of read 4 ≡ c
  flag4 = flag_at 4 c (omega (arith, bit_below a, bit_below b, bit_below c, bit_below d, bit_below e))

  pub flag8 : flag_of read 8 ≡ d
  flag8 = flag_at 8 d (omega (arith, bit_below a, bit_below b, bit_below c, bit_below d, bit_below e))

  pub flag16 : flag_of read 16 ≡ e
  flag16 = flag_at 16 e (omega (arith, bit_below a, bit_below b, bit_below c, bit_below d, bit_below e))
