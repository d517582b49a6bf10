-- A call's promise has one outcome. Assumes nothing.
use Rattle.std.proofs.Common.{◌≡◌, ℕ, Bool, true, cond, List, sym, ap, ◌∙◌, inl, inr}
use Rattle.std.proofs.lemmas.List.{ext_get_or}
use Rattle.std.proofs.lemmas.Bool.{cases_lt, cond-true}
use Rattle.source.specs.declared.ExportsKind.{ExportsKind}
use Rattle.source.specs.declared.ExportsKind.TheVariants.{None as Unknown}
use Rattle.source.specs.Meaning.{Meaning, count_of}
use Rattle.marks.specs.declared.rows.MarkRow.{MarkRow}
use Rattle.marks.specs.declared.rows.WrapKind.{WrapKind}
use Rattle.marks.specs.declared.rows.WrapKind.TheVariants.{None as Unwrapped}
use Rattle.settled.specs.declared.calls.Pass.TheVariants.{Kinds, Star, Wrap, Await, Entries}
use Rattle.marks.specs.Rows.{row_at, wrapped_in, required_in, dynamic_in, awaiting_in, entries_in, keeps_rule, Raised}
use Rattle.marks.specs.Rules.{cleared, agrees, is_wrapped, read_wrap, wrap_of}
use Rattle.marks.specs.Passes.{Did, SameEntries}
use Rattle.settled.specs.Theorem.{OneOutcome}
use Rattle.settled.proofs.Entered.{one_set}
use Rattle.tla.proofs.Counted.{same_test}
use Rattle.marks.proofs.Writes.{reads_by_kind}
use Rattle.settled.proofs.Facts.{raised_is}

one_flag : {P : Type 0} {old : Bool} (a b : Bool) → Raised P old a → Raised P old b → a ≡ b
one_flag a b r s = same_test a b (raised_is r) (raised_is s)

-- a row that keeps the rule is wrapped as it reads
wrap_is : (kind : ExportsKind) (wrap : WrapKind) → agrees kind wrap ≡ true → wrap ≡ cond (is_wrapped (read_wrap kind wrap)) (wrap_of kind) Unwrapped
wrap_is kind wrap e = sym (cond-true (agrees kind wrap) wrap Unwrapped e) ∙ reads_by_kind kind wrap

same_row : (x y : MarkRow) → x.kind ≡ y.kind → x.wrap ≡ y.wrap → x.required ≡ y.required → x.dynamic ≡ y.dynamic → x.awaiting ≡ y.awaiting → x.entries ≡ y.entries → x ≡ y
same_row x y k v r d a e = λ i. record { kind = k i; wrap = v i; required = r i; dynamic = d i; awaiting = a i; entries = e i }

same_wrap : (x y : MarkRow) → keeps_rule x → keeps_rule y → x.kind ≡ y.kind → is_wrapped (read_wrap x.kind x.wrap) ≡ is_wrapped (read_wrap y.kind y.wrap) → x.wrap ≡ y.wrap
same_wrap x y p q k v = wrap_is x.kind x.wrap p ∙ ap (λ (b : Bool). cond b (wrap_of x.kind) Unwrapped) v ∙ ap (λ (z : ExportsKind). cond (is_wrapped (read_wrap y.kind y.wrap)) (wrap_of z) Unwrapped) k ∙ sym (wrap_is y.kind y.wrap q)

one_did : (w : Meaning) (old xs ys : List MarkRow) (kinds : ℕ → ExportsKind) (W R D A : ℕ → Type 0) (E : ℕ → ℕ → Type 0) → ((m a b : ℕ) → E m a → E m b → a ≡ b) → Did w old xs kinds W R D A E → Did w old ys kinds W R D A E → xs ≡ ys
one_did w old xs ys kinds W R D A E one p q = ext_get_or (cleared Unknown) xs ys (p.long ∙ sym q.long) (λ m lt. at_row m)
  where
    at_row : (m : ℕ) → row_at xs m ≡ row_at ys m
    at_row m = elim (cases_lt m (count_of w)) [
      | inl h ↦ let k = p.kind m h ∙ sym (q.kind m h) in
          same_row (row_at xs m) (row_at ys m) k
          (same_wrap (row_at xs m) (row_at ys m) (p.rule m h) (q.rule m h) k (one_flag (wrapped_in xs m) (wrapped_in ys m) (p.wrap m h) (q.wrap m h)))
          (one_flag (required_in xs m) (required_in ys m) (p.required m h) (q.required m h))
          (one_flag (dynamic_in xs m) (dynamic_in ys m) (p.dynamic m h) (q.dynamic m h))
          (one_flag (awaiting_in xs m) (awaiting_in ys m) (p.awaiting m h) (q.awaiting m h))
          (one m (entries_in xs m) (entries_in ys m) (p.entries m h) (q.entries m h))
      | inr h ↦ p.past m h ∙ sym (q.past m h)
    ]

same_set : (old : List MarkRow) (m a b : ℕ) → SameEntries old m a → SameEntries old m b → a ≡ b
same_set old m a b p q = p ∙ sym q

pub one_outcome : OneOutcome
one_outcome w o Kinds old xs ys p q = one_did w old xs ys _ _ _ _ _ _ (same_set old) p q
one_outcome w o Star old xs ys p q = one_did w old xs ys _ _ _ _ _ _ (same_set old) p q
one_outcome w o Wrap old xs ys p q = one_did w old xs ys _ _ _ _ _ _ (same_set old) p q
one_outcome w o Await old xs ys p q = one_did w old xs ys _ _ _ _ _ _ (same_set old) p q
one_outcome w o Entries old xs ys p q = one_did w old xs ys _ _ _ _ _ _ (one_set w) p q
