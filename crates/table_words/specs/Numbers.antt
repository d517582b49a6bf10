-- Numbers and spans of the text form.
--
--   Numbered   what a text is read as: the number that its decimal digits write, where that is below 2^32, else none
--   Spanned    what a text is read as: the span of two such numbers with `..` between them, where it is one
use Rattle.std.specs.Prelude.{◌≡◌, ℕ, ◌^◌, ◌<◌, List, ◌++◌, Some, None, codes, Option}
use Rattle.std.specs.Str.Parse.{IsNumeral, digits_value}
use Rattle.source.specs.declared.Span.{Span}

abbrev pub Numbered : List ℕ → Option ℕ → Type 0
Numbered text (Some n) = IsNumeral 10 text × (digits_value 10 text < 2 ^ 32) × (n ≡ digits_value 10 text)
Numbered text None = IsNumeral 10 text → digits_value 10 text < 2 ^ 32 → ⊥

abbrev pub Spanned : List ℕ → Option Span → Type 0
Spanned text (Some s) = (start : List ℕ) × (end : List ℕ) × (text ≡ start ++ (codes ".." ++ end)) × Numbered start (Some s.start) × Numbered end (Some s.end)
Spanned text None = (start end : List ℕ) (m n : ℕ) → text ≡ start ++ (codes ".." ++ end) → Numbered start (Some m) → Numbered end (Some n) → ⊥
