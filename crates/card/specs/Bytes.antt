-- Numbers as bytes, the low byte first.
--
--   u16_le, u32_le   the number that the two or four bytes from an offset on stand for
--   le2, le4         the two or four bytes of a number
use Rattle.std.specs.Prelude.{ℕ, ◌+◌, ◌*◌, ◌/◌, ◌%◌, List, [], ◌∷◌, slice_index}

unfoldable pub u16_le : List ℕ → ℕ → ℕ
u16_le bs at = slice_index bs at + slice_index bs (at + 1) * 256

unfoldable pub u32_le : List ℕ → ℕ → ℕ
u32_le bs at = slice_index bs at + slice_index bs (at + 1) * 256 + slice_index bs (at + 2) * 65536 + slice_index bs (at + 3) * 16777216

unfoldable pub le2 : ℕ → List ℕ
le2 n = n % 256 ∷ n / 256 % 256 ∷ []

unfoldable pub le4 : ℕ → List ℕ
le4 n = n % 256 ∷ n / 256 % 256 ∷ n / 65536 % 256 ∷ n / 16777216 % 256 ∷ []
