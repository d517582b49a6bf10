-- The three kinds of fact: the least fact of each, and the join of two.
--
--   plain_no, either        yes or no: no, and yes where one is yes
--   no_entry, union         entry sets: the empty set, and the ranks of both
--   no_use, use_join        an interop use or none: none, and what either is used for
--
-- and what entry sets are asked:
--
--   Holds e r, has_rank     rank r is in the set e, as a fact and as a test
--   single_entry            the set of one rank, empty for a rank past 63
--   count f n               how many numbers below n pass the test f
--   entry_count             how many ranks are in the set
--   first_entry, FirstIn    the least rank in the set, `None` for the empty set; what that says of the ranks in it
use Rattle.std.specs.Prelude.{◌≡◌, ℕ, zero, suc, ◌/◌, ◌%◌, ◌^◌, ◌<◌, Bool, false, cond, ◌||◌, Some, None, Option, ◌==◌, bit_or, nat_lt}
use Rattle.std.specs.Int.Count.{count_trailing_zeros}
use Rattle.spread.specs.declared.yes_no.YesNo.{YesNo}
use Rattle.spread.specs.declared.entry_set.EntrySet.{EntrySet}
use Rattle.spread.specs.declared.interop_use.InteropUse.{InteropUse}

abbrev pub plain_no : YesNo
plain_no = record { 0 = false }

abbrev pub either : YesNo → YesNo → YesNo
either x y = record { 0 = x.0 || y.0 }

abbrev pub no_entry : EntrySet
no_entry = record { 0 = 0 }

abbrev pub union : EntrySet → EntrySet → EntrySet
union x y = record { 0 = bit_or x.0 y.0 }

abbrev pub Holds : EntrySet → ℕ → Type 0
Holds e r = e.0 / 2 ^ r % 2 ≡ 1

abbrev pub has_rank : EntrySet → ℕ → Bool
has_rank e r = e.0 / 2 ^ r % 2 == 1

abbrev pub single_entry : ℕ → EntrySet
single_entry r = record { 0 = cond (nat_lt r 64) (2 ^ r) 0 }

abbrev pub count : (ℕ → Bool) → ℕ → ℕ
count f zero = 0
count f (suc n) = cond (f n) (suc (count f n)) (count f n)

unfoldable pub entry_count : EntrySet → ℕ
entry_count e = count (has_rank e) 64

abbrev pub first_entry : EntrySet → Option ℕ
first_entry e = cond (e.0 == 0) None (Some (count_trailing_zeros 64 e.0))

abbrev pub FirstIn : EntrySet → Option ℕ → Type 0
FirstIn e None = (r : ℕ) → Holds e r → ⊥
FirstIn e (Some first) = Holds e first × ((r : ℕ) → r < first → Holds e r → ⊥)

abbrev pub no_use : Option InteropUse
no_use = None

abbrev pub use_join : Option InteropUse → Option InteropUse → Option InteropUse
use_join None y = y
use_join (Some a) None = Some a
use_join (Some a) (Some b) = Some (record { node = a.node || b.node; non_node = a.non_node || b.non_node })
