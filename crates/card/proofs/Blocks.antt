-- A block and what it stands for, there and back.
use Rattle.std.proofs.Common.{◌≡◌, ℕ, zero, suc, ◌+◌, ◌-◌, ◌*◌, ◌/◌, ◌%◌, ◌^◌, ◌<◌, ◌≤◌, Bool, true, false, cond, ◌&&◌, eqb, ltb, List, [], ◌∷◌, ◌++◌, map, length, get_or, take, Some, None, Option, sym, refl, ap, ◌∙◌, div-one, arith, lit<}
use Rattle.std.specs.List.{range_with_len}
use Rattle.std.proofs.lemmas.Nat.{shr-shr}
use Rattle.std.proofs.lemmas.List.FromFn.{fill_by_all}
use Rattle.std.proofs.lemmas.List.{length-take-le, get_or-take, take-append-drop}
use Rattle.std.proofs.lemmas.Bool.{lt-ltb, le-ltb, ltb-false, eqb-true, eqb-false, not-false, and_parts, or_parts, or_from, cond-true}
use Rattle.source.specs.declared.ExportsKind.{ExportsKind}
use Rattle.source.specs.declared.ExportsKind.TheVariants as exports
use Rattle.source.specs.declared.ImportKind.{ImportKind}
use Rattle.source.specs.declared.ImportKind.TheVariants.{Import, Require, DynamicImport, AtImport, UrlImport, NewUrl, HotAccept}
use Rattle.source.specs.declared.ImportRecord.{ImportRecord}
use Rattle.source.specs.declared.Module.{Module}
use Rattle.source.specs.declared.Module.TheVariants.{External, Normal}
use Rattle.source.specs.Numbers.{exports_number, import_number}
use Rattle.card.specs.Bytes.{u16_le, u32_le, le2, le4}
use Rattle.card.specs.Fields.{exports_of, import_of, flag_of, target_of, is_external, module_of, first_of, count_of, record_of, bit, class_number, scanned_number, flags_number, await_start, await_end, target_number, module_fields, record_fields, not_blank, module_wrong, kind_wrong, star_wrong, record_wrong}
use Rattle.card.specs.Cards.{block, fields_of, head_wrong}
use Rattle.card.specs.Passed.{Right, right_from, blank_at}
use Rattle.card.specs.Writable.{Fits32, RecordFits}
use Rattle.card.proofs.Digits.{four, two, Bytes, le4_back, le2_back, u32_fits, bit_is, bit_of, flag1, flag2, flag4, flag8, flag16}

-- from the value to its bytes and back

exports_back : (k : ExportsKind) → exports_of (exports_number k) ≡ k
exports_back exports.None = refl
exports_back exports.Esm = refl
exports_back exports.CommonJs = refl

import_back : (k : ImportKind) → import_of (import_number k) ≡ k
import_back Import = refl
import_back Require = refl
import_back DynamicImport = refl
import_back AtImport = refl
import_back UrlImport = refl
import_back NewUrl = refl
import_back HotAccept = refl

target_back : (t : Option ℕ) → ((n : ℕ) → t ≡ Some n → n < 2 ^ 32 - 1) → target_of (target_number t) ≡ t
target_back (Some n) h = cond-true (ltb n 4294967295) (Some n) None (lt-ltb n 4294967295 (omega (arith, h n refl)))
target_back None h = refl

target_fits : (t : Option ℕ) → ((n : ℕ) → t ≡ Some n → n < 2 ^ 32 - 1) → target_number t < 4294967296
target_fits (Some n) h = omega (arith, h n refl)
target_fits None h = omega arith

abbrev made_record : ImportKind → Option ℕ → Bool → ℕ → ℕ → ImportRecord
made_record k t s from to = record { kind = k; target = t; star = s; span = record { start = from; end = to } }

same_record : (k k' : ImportKind) (t t' : Option ℕ) (s s' : Bool) (from from' to to' : ℕ) → k ≡ k' → t ≡ t' → s ≡ s' → from ≡ from' → to ≡ to' → made_record k t s from to ≡ made_record k' t' s' from' to'
same_record k k' t t' s s' from from' to to' ek et es ef eo = cc

pub record_decoded : (r : ImportRecord) → RecordFits r → record_of (record_fields r) ≡ r
unfolding u32_le le4
record_decoded r fits =
    same_record _ r.kind _ r.target _ r.star _ r.span.start _ r.span.end
    (import_back r.kind)
    (ap target_of (four (target_number r.target) (target_fits r.target fits.target)) ∙ target_back r.target fits.target)
    (bit_is r.star) (four r.span.start fits.start) (four r.span.end fits.end)

abbrev made_module : ExportsKind → Bool → Bool → Bool → Bool → Bool → ℕ → ℕ → Module
made_module k l t m n e from to = Normal (record {
  scanned = k;
  lazy_export = l;
  top_level_await = t;
  module_or_exports = m;
  node_esm = n;
  entry = e;
  await_span = record { start = from; end = to };
})

same_module : (k k' : ExportsKind) (l l' t t' m m' n n' e e' : Bool) (from from' to to' : ℕ) → k ≡ k' → l ≡ l' → t ≡ t' → m ≡ m' → n ≡ n' → e ≡ e' → from ≡ from' → to ≡ to' → made_module k l t m n e from to ≡ made_module k' l' t' m' n' e' from' to'
same_module k k' l l' t t' m m' n n' e e' from from' to to' ek el et em en ee ef eo = cc

pub module_decoded : (d : Module) (first count : ℕ) → Fits32 (await_start d) → Fits32 (await_end d) → module_of (module_fields d first count) ≡ d
unfolding u16_le u32_le le2 le4
module_decoded External first count hs he = refl
module_decoded (Normal n) first count hs he =
    let l = n.lazy_export in
    let t = n.top_level_await in
    let m = n.module_or_exports in
    let o = n.node_esm in
    let e = n.entry in
    same_module _ n.scanned _ l _ t _ m _ o _ e _ n.await_span.start _ n.await_span.end
    (exports_back n.scanned) (flag1 l t m o e) (flag2 l t m o e) (flag4 l t m o e) (flag8 l t m o e) (flag16 l t m o e)
    (four n.await_span.start hs) (four n.await_span.end he)

pub first_decoded : (d : Module) (first count : ℕ) → Fits32 first → first_of (module_fields d first count) ≡ first
unfolding u32_le le2 le4
first_decoded d first count h = four first h

pub count_decoded : (d : Module) (first count : ℕ) → Fits32 count → count_of (module_fields d first count) ≡ count
unfolding u32_le le2 le4
count_decoded d first count h = four count h

-- no field of such a block is wrong

exports_below : (k : ExportsKind) → exports_number k ≤ 2
exports_below exports.None = omega arith
exports_below exports.Esm = omega arith
exports_below exports.CommonJs = omega arith

import_below : (k : ImportKind) → import_number k ≤ 6
import_below Import = omega arith
import_below Require = omega arith
import_below DynamicImport = omega arith
import_below AtImport = omega arith
import_below UrlImport = omega arith
import_below NewUrl = omega arith
import_below HotAccept = omega arith

bit_below : (x : Bool) → bit x ≤ 1
bit_below true = omega arith
bit_below false = omega arith

pub record_right : (r : ImportRecord) → record_wrong (record_fields r) ≡ false
record_right r =
    or_from (kind_wrong (record_fields r)) (star_wrong (record_fields r))
    (le-ltb 6 (import_number r.kind) (import_below r.kind)) (le-ltb 1 (bit r.star) (bit_below r.star))

flags_below : (d : Module) → flags_number d ≤ 31
flags_below External = omega arith
flags_below (Normal n) =
    omega (arith, bit_below n.lazy_export, bit_below n.top_level_await, bit_below n.module_or_exports, bit_below n.node_esm, bit_below n.entry)

pub module_right : (d : Module) (first count : ℕ) → (d ≡ External → count ≡ 0) → module_wrong (module_fields d first count) ≡ false
unfolding u16_le u32_le le2 le4
module_right External first count blank = ap (λ (n : ℕ). not_blank (module_fields External first n) 16) (blank refl)
module_right (Normal n) first count blank =
    let f = flags_number (Normal n) in
    let small : f ≤ 31 = flags_below (Normal n) in
    let fits : f < 65536 = omega arith in
    or_from _ _ (le-ltb 2 (exports_number n.scanned) (exports_below n.scanned))
    (or_from _ _ (le-ltb 31 (f % 256 + f / 256 % 256 * 256) (rw (two f fits) small)) refl)

-- the head of a block
pub head_right : (f : List ℕ) → head_wrong 24 2 (block 24 2 f) ≡ false
unfolding u16_le le2
head_right f = refl

pub record_head_right : (f : List ℕ) → head_wrong 18 3 (block 18 3 f) ≡ false
unfolding u16_le le2
record_head_right f = refl

pub fields_back : (size kind : ℕ) (f : List ℕ) → fields_of (block size kind f) ≡ f
unfolding le2
fields_back size kind f = refl

pub length_module_block : (d : Module) (first count : ℕ) → length (block 24 2 (module_fields d first count)) ≡ 24
unfolding le2 le4
length_module_block d first count = refl

pub length_record_block : (r : ImportRecord) → length (block 18 3 (record_fields r)) ≡ 18
unfolding le2 le4
length_record_block r = refl

-- from the bytes to the value and back

exports_there : (n : ℕ) → n ≤ 2 → exports_number (exports_of n) ≡ n
exports_there zero h = refl
exports_there (suc zero) h = refl
exports_there (suc (suc zero)) h = refl
exports_there (suc (suc (suc n))) h = absurd (omega arith)

import_there : (n : ℕ) → n ≤ 6 → import_number (import_of n) ≡ n
import_there zero h = refl
import_there (suc zero) h = refl
import_there (suc (suc zero)) h = refl
import_there (suc (suc (suc zero))) h = refl
import_there (suc (suc (suc (suc zero)))) h = refl
import_there (suc (suc (suc (suc (suc zero))))) h = refl
import_there (suc (suc (suc (suc (suc (suc zero)))))) h = refl
import_there (suc (suc (suc (suc (suc (suc (suc n))))))) h = absurd (omega arith)

target_at : (n : ℕ) (b : Bool) → n < 4294967296 → ltb n 4294967295 ≡ b → target_number (cond b (Some n) None) ≡ n
target_at n true h e = refl
target_at n false h e = omega (arith, ltb-false n 4294967295 e)

spelled : (f : List ℕ) (n : ℕ) → length f ≡ n → f ≡ map (λ (k : ℕ). get_or f k 0) (range_with_len 0 n)
spelled f n size = fill_by_all (λ (k : ℕ). get_or f k 0) f n 0 size (λ k h. refl)

joined_record : (a a' b b' : ℕ) (t t' s s' e e' : List ℕ) → a ≡ a' → b ≡ b' → t ≡ t' → s ≡ s' → e ≡ e' → a ∷ b ∷ (t ++ (s ++ e)) ≡ a' ∷ b' ∷ (t' ++ (s' ++ e'))
joined_record a a' b b' t t' s s' e e' ea eb et es ee = cc

pub record_encoded : (f : List ℕ) → length f ≡ 14 → Bytes f → record_wrong f ≡ false → record_fields (record_of f) ≡ f
record_encoded f size bytes w =
    let right = or_parts (kind_wrong f) (star_wrong f) w in
    let star : get_or f 1 0 < 2 = omega (arith, ltb-false 1 (get_or f 1 0) right.1) in
    joined_record _ (get_or f 0 0) _ (get_or f 1 0) _ _ _ _ _ _
    (import_there (get_or f 0 0) (ltb-false 6 (get_or f 0 0) right.0))
    (bit_of (get_or f 1 0) star)
    (ap le4 (target_at (u32_le f 2) (ltb (u32_le f 2) 4294967295) (u32_fits f bytes 2) refl) ∙ le4_back f bytes 2)
    (le4_back f bytes 6) (le4_back f bytes 10)
    ∙ sym (spelled f 14 size)

record Parts (f : List ℕ) (d : Module) : Type 0 where
  pub class : class_number d ≡ get_or f 0 0
  pub scanned : scanned_number d ≡ get_or f 1 0
  pub flags : flags_number d ≡ u16_le f 2
  pub start : await_start d ≡ u32_le f 4
  pub end : await_end d ≡ u32_le f 8

flag_bit : (n : ℕ) → bit (eqb (n % 2) 1) ≡ n % 2
flag_bit n = bit_of (n % 2) (omega arith)

half : (n q : ℕ) → q ≡ n / 2 → n % 2 + 2 * q ≡ n
half n q e = omega arith

flags_there : (n : ℕ) → n ≤ 31 → bit (flag_of n 1) + 2 * bit (flag_of n 2) + 4 * bit (flag_of n 4) + 8 * bit (flag_of n 8) + 16 * bit (flag_of n 16) ≡ n
flags_there n h =
    let b1 : bit (flag_of n 1) ≡ n % 2 = flag_bit (n / 1) ∙ ap (λ (x : ℕ). x % 2) (div-one n) in
    let h2 = half n (n / 2) refl in
    let h4 = half (n / 2) (n / 4) (sym (shr-shr n 1 1)) in
    let h8 = half (n / 4) (n / 8) (sym (shr-shr n 2 1)) in
    let h16 = half (n / 8) (n / 16) (sym (shr-shr n 3 1)) in
    let last : n / 16 % 2 ≡ n / 16 = below_two (n / 16) (omega arith) in
    added (n % 2) (n / 2 % 2) (n / 4 % 2) (n / 8 % 2) (n / 16 % 2) _ _ _ _ _ n (n / 2) (n / 4) (n / 8) (n / 16)
    b1 (flag_bit (n / 2)) (flag_bit (n / 4)) (flag_bit (n / 8)) (flag_bit (n / 16)) h2 h4 h8 h16 last
  where
    below_two : (q : ℕ) → q < 2 → q % 2 ≡ q
    below_two q lt = omega arith

    added : (a b c d e a' b' c' d' e' n₁ n₂ n₄ n₈ n₁₆ : ℕ) → a' ≡ a → b' ≡ b → c' ≡ c → d' ≡ d → e' ≡ e → a + 2 * n₂ ≡ n₁ → b + 2 * n₄ ≡ n₂ → c + 2 * n₈ ≡ n₄ → d + 2 * n₁₆ ≡ n₈ → e ≡ n₁₆ → a' + 2 * b' + 4 * c' + 8 * d' + 16 * e' ≡ n₁
    added a b c d e a' b' c' d' e' n₁ n₂ n₄ n₈ n₁₆ ea eb ec ed ee h1 h2 h4 h8 l = omega arith

module _ (f : List ℕ) (right : Right f) where
  bound : (most x : ℕ) (b : Bool) → is_external f ≡ b → ltb (cond (is_external f) 0 most) x ≡ false → x ≤ cond b 0 most
  bound most x b e w = ltb-false (cond b 0 most) x (ap (λ (c : Bool). ltb (cond c 0 most) x) (sym e) ∙ w)

  parts_at : (b : Bool) → is_external f ≡ b → Parts f (cond b External (made_module (exports_of (get_or f 1 0)) (flag_of (u16_le f 2) 1) (flag_of (u16_le f 2) 2) (flag_of (u16_le f 2) 4) (flag_of (u16_le f 2) 8) (flag_of (u16_le f 2) 16) (u32_le f 4) (u32_le f 8)))
  parts_at true e = record {
    class = sym (eqb-true (get_or f 0 0) 0 e);
    scanned = omega (arith, bound 2 (get_or f 1 0) true e right.scanned);
    flags = omega (arith, bound 31 (u16_le f 2) true e right.flags);
    start = sym (blank_at f 4 e right.start);
    end = sym (blank_at f 8 e right.end);
  }
  parts_at false e = record {
    class = one (get_or f 0 0) (ltb-false 1 (get_or f 0 0) right.class) (eqb-false (get_or f 0 0) 0 e);
    scanned = exports_there (get_or f 1 0) (bound 2 (get_or f 1 0) false e right.scanned);
    flags = flags_there (u16_le f 2) (bound 31 (u16_le f 2) false e right.flags);
    start = refl;
    end = refl;
  } where
    one : (n : ℕ) → n ≤ 1 → (n ≡ 0 → ⊥) → 1 ≡ n
    one n h ne = omega arith

joined_module : (a a' b b' : ℕ) (f f' s s' e e' m m' c c' : List ℕ) → a ≡ a' → b ≡ b' → f ≡ f' → s ≡ s' → e ≡ e' → m ≡ m' → c ≡ c' → a ∷ b ∷ (f ++ (s ++ (e ++ (m ++ c)))) ≡ a' ∷ b' ∷ (f' ++ (s' ++ (e' ++ (m' ++ c'))))
joined_module a a' b b' f f' s s' e e' m m' c c' ea eb ef es ee em ec = cc

pub module_encoded : (f : List ℕ) → length f ≡ 20 → Bytes f → module_wrong f ≡ false → module_fields (module_of f) (first_of f) (count_of f) ≡ f
module_encoded f size bytes w =
    let parts = parts_at f (right_from f w) (is_external f) refl in
    joined_module _ (get_or f 0 0) _ (get_or f 1 0) _ _ _ _ _ _ _ _ _ _
    parts.class parts.scanned
    (ap le2 parts.flags ∙ le2_back f bytes 2)
    (ap le4 parts.start ∙ le4_back f bytes 4)
    (ap le4 parts.end ∙ le4_back f bytes 8)
    (le4_back f bytes 12) (le4_back f bytes 16)
    ∙ sym (spelled f 20 size)

-- a block whose length and kind are right
pub head_encoded : (size kind : ℕ) (b : List ℕ) → 4 ≤ length b → Bytes b → head_wrong size kind b ≡ false → block size kind (fields_of b) ≡ b
head_encoded size kind b long bytes w =
    let both = and_parts (eqb (u16_le b 0) size) (eqb (u16_le b 2) kind) (not-false (eqb (u16_le b 0) size && eqb (u16_le b 2) kind) w) in
    let s = ap le2 (sym (eqb-true (u16_le b 0) size both.0)) ∙ le2_back b bytes 0 in
    let k = ap le2 (sym (eqb-true (u16_le b 2) kind both.1)) ∙ le2_back b bytes 2 in
    ap (λ (x : List ℕ). x ++ (le2 kind ++ fields_of b)) s
    ∙ ap (λ (x : List ℕ). get_or b 0 0 ∷ get_or b 1 0 ∷ (x ++ fields_of b)) k
    ∙ ap (λ (x : List ℕ). x ++ fields_of b) (sym (spelled (take 4 b) 4 (length-take-le 4 b long) ∙ firsts))
    ∙ take-append-drop 4 b
  where
    firsts : map (λ (k : ℕ). get_or (take 4 b) k 0) (range_with_len 0 4) ≡ get_or b 0 0 ∷ get_or b 1 0 ∷ get_or b 2 0 ∷ get_or b 3 0 ∷ []
    firsts =
        let e0 = get_or-take 4 b 0 0 (lit< tt) in
        let e1 = get_or-take 4 b 1 0 (lit< tt) in
        let e2 = get_or-take 4 b 2 0 (lit< tt) in
        let e3 = get_or-take 4 b 3 0 (lit< tt) in
        cc
