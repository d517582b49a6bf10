-- The fields of a module's and of a record's block: which bytes a value has, which value bytes have, which bytes are wrong.
-- Offsets count from after the block's own length and kind.
--
--   exports_of, import_of, flag_of, target_of   what a field's number stands for
--   bit, class_number, scanned_number, flags_number, await_start, await_end, target_number   the number in each field
--   module_of, first_of, count_of   a module's description, its first record and how many it has, of a module's fields
--   record_of        the record, of a record's fields
--   module_fields, record_fields   the fields of a module, and of a record
--   is_external, not_blank   the class is that of an external module, and a number of it that must be 0 is not
--   class_wrong .. count_wrong, module_wrong   each field of a module in rising byte order, and whether one is wrong
--   kind_wrong, star_wrong, record_wrong       the same of a record
use Rattle.std.specs.Prelude.{ℕ, ◌+◌, ◌*◌, ◌/◌, ◌%◌, Bool, true, false, cond, not, ◌&&◌, ◌||◌, List, ◌∷◌, ◌++◌, Some, None, Option, ◌==◌, nat_lt, slice_index}
use Rattle.source.specs.declared.ExportsKind.{ExportsKind}
use Rattle.source.specs.declared.ExportsKind.TheVariants as exports
use Rattle.source.specs.declared.ImportKind.{ImportKind}
use Rattle.source.specs.declared.ImportKind.TheVariants.{Import, Require, DynamicImport, AtImport, UrlImport, NewUrl, HotAccept}
use Rattle.source.specs.declared.ImportRecord.{ImportRecord}
use Rattle.source.specs.declared.Module.{Module}
use Rattle.source.specs.declared.Module.TheVariants.{External, Normal}
use Rattle.source.specs.Numbers.{exports_number, import_number}
use Rattle.card.specs.Bytes.{u16_le, u32_le, le2, le4}

abbrev pub exports_of : ℕ → ExportsKind
exports_of n = cond (n == 0) exports.None (cond (n == 1) exports.Esm exports.CommonJs)

abbrev pub import_of : ℕ → ImportKind
import_of n =
    cond (n == 0) Import (cond (n == 1) Require (cond (n == 2) DynamicImport (cond (n == 3) AtImport (cond (n == 4) UrlImport (cond (n == 5) NewUrl HotAccept)))))

abbrev pub flag_of : ℕ → ℕ → Bool
flag_of flags place = flags / place % 2 == 1

-- 2^32 - 1 stands for none
abbrev pub target_of : ℕ → Option ℕ
target_of n = cond (nat_lt n 4294967295) (Some n) None

abbrev pub is_external : List ℕ → Bool
is_external f = slice_index f 0 == 0

abbrev pub module_of : List ℕ → Module
module_of f = cond (is_external f) External (Normal (record {
  scanned = exports_of (slice_index f 1);
  lazy_export = flag_of (u16_le f 2) 1;
  top_level_await = flag_of (u16_le f 2) 2;
  module_or_exports = flag_of (u16_le f 2) 4;
  node_esm = flag_of (u16_le f 2) 8;
  entry = flag_of (u16_le f 2) 16;
  await_span = record { start = u32_le f 4; end = u32_le f 8 };
}))

abbrev pub first_of : List ℕ → ℕ
first_of f = u32_le f 12

abbrev pub count_of : List ℕ → ℕ
count_of f = u32_le f 16

abbrev pub record_of : List ℕ → ImportRecord
record_of f = record {
  kind = import_of (slice_index f 0);
  target = target_of (u32_le f 2);
  star = (slice_index f 1 == 1);
  span = record { start = u32_le f 6; end = u32_le f 10 };
}

abbrev pub bit : Bool → ℕ
bit true = 1
bit false = 0

abbrev pub class_number : Module → ℕ
class_number External = 0
class_number (Normal n) = 1

abbrev pub scanned_number : Module → ℕ
scanned_number External = 0
scanned_number (Normal n) = exports_number n.scanned

abbrev pub flags_number : Module → ℕ
flags_number External = 0
flags_number (Normal n) =
    bit n.lazy_export + 2 * bit n.top_level_await + 4 * bit n.module_or_exports + 8 * bit n.node_esm + 16 * bit n.entry

abbrev pub await_start : Module → ℕ
await_start External = 0
await_start (Normal n) = n.await_span.start

abbrev pub await_end : Module → ℕ
await_end External = 0
await_end (Normal n) = n.await_span.end

abbrev pub target_number : Option ℕ → ℕ
target_number (Some t) = t
target_number None = 4294967295

abbrev pub module_fields : Module → ℕ → ℕ → List ℕ
module_fields d first count =
    class_number d ∷ scanned_number d ∷ (le2 (flags_number d) ++ (le4 (await_start d) ++ (le4 (await_end d) ++ (le4 first ++ le4 count))))

abbrev pub record_fields : ImportRecord → List ℕ
record_fields r =
    import_number r.kind ∷ bit r.star ∷ (le4 (target_number r.target) ++ (le4 r.span.start ++ le4 r.span.end))

abbrev pub class_wrong : List ℕ → Bool
class_wrong f = nat_lt 1 (slice_index f 0)

abbrev pub scanned_wrong : List ℕ → Bool
scanned_wrong f = nat_lt (cond (is_external f) 0 2) (slice_index f 1)

abbrev pub flags_wrong : List ℕ → Bool
flags_wrong f = nat_lt (cond (is_external f) 0 31) (u16_le f 2)

abbrev pub not_blank : List ℕ → ℕ → Bool
not_blank f at = is_external f && not (u32_le f at == 0)

abbrev pub await_start_wrong : List ℕ → Bool
await_start_wrong f = not_blank f 4

abbrev pub await_end_wrong : List ℕ → Bool
await_end_wrong f = not_blank f 8

abbrev pub count_wrong : List ℕ → Bool
count_wrong f = not_blank f 16

abbrev pub module_wrong : List ℕ → Bool
module_wrong f = class_wrong f || (scanned_wrong f || (flags_wrong f || (await_start_wrong f || (await_end_wrong f || count_wrong f))))

abbrev pub kind_wrong : List ℕ → Bool
kind_wrong f = nat_lt 6 (slice_index f 0)

abbrev pub star_wrong : List ℕ → Bool
star_wrong f = nat_lt 1 (slice_index f 1)

abbrev pub record_wrong : List ℕ → Bool
record_wrong f = kind_wrong f || star_wrong f
