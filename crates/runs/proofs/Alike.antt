-- A run leaves no choice. Assumes nothing.
use Rattle.std.proofs.Common.{◌≡◌, ℕ, List, ◌∷◌, Ok, Err, Result, sym, refl, ap, ◌∙◌, subst, inl, inr}
use Rattle.std.proofs.lemmas.List.{ext_get_or}
use Rattle.std.proofs.lemmas.Bool.{cases_lt}
use Rattle.faults.specs.declared.Fault.{Fault}
use Rattle.faults.specs.Faults.{Verdict}
use Rattle.source.specs.declared.ExportsKind.TheVariants.{None as Unknown}
use Rattle.source.specs.Meaning.{Meaning, Proper, count_of}
use Rattle.marks.specs.declared.options.LinkOptions.{LinkOptions}
use Rattle.marks.specs.declared.rows.AwaitRow.{AwaitRow}
use Rattle.marks.specs.declared.rows.MarkRow.{MarkRow}
use Rattle.marks.specs.Passes.{BeginDid}
use Rattle.marks.specs.Rows.{row_at}
use Rattle.marks.specs.Rules.{cleared}
use Rattle.ways.specs.Ways.{Targets}
use Rattle.lawful.specs.declared.check.Lent.{Lent}
use Rattle.tla.proofs.Alike.{one_list}
use Rattle.link.specs.declared.calls.Link.{Link}
use Rattle.link.specs.declared.stage.Stage.{Stage}
use Rattle.link.specs.Calls.{results_verdict, counted, Leaves, AwaitAnswer}
use Rattle.settled.specs.declared.calls.Asked.{Asked}
use Rattle.settled.specs.declared.calls.Pass.{Pass}
use Rattle.settled.specs.declared.calls.Pass.TheVariants.{Kinds, Star, Wrap, Await, Entries}
use Rattle.settled.specs.Runs.{PassDid}
use Rattle.settled.proofs.Outcomes.{one_outcome}
use Rattle.runs.specs.Made.{At, Answers, ListAfter, Made, answered, Went, done, next, OneRun}

same_link : (x y : Link) → x.options ≡ y.options → x.stage ≡ y.stage → x ≡ y
same_link x y o s = λ i. record { options = o i; stage = s i }

same_at : (x y : At) → x.link ≡ y.link → x.marks ≡ y.marks → x.list ≡ y.list → x ≡ y
same_at x y l m r = λ i. record { link = l i; marks = m i; list = r i }

one_begin : (w : Meaning) (old xs ys : List MarkRow) → BeginDid w old xs → BeginDid w old ys → xs ≡ ys
one_begin w old xs ys a b = ext_get_or (cleared Unknown) xs ys (a.long ∙ sym b.long) (λ m lt. at_row m)
  where
    at_row : (m : ℕ) → row_at xs m ≡ row_at ys m
    at_row m = elim (cases_lt m (count_of w)) [ inl h ↦ a.rows m h ∙ sym (b.rows m h) | inr h ↦ a.past m h ∙ sym (b.past m h) ]

one_await : (v : Verdict) (w : Meaning) (room : ℕ) (r q : Result ℕ Fault) → AwaitAnswer v w room r → AwaitAnswer v w room q → r ≡ q
one_await (Ok u) w room r q a b = a.is ∙ ap (λ (n : ℕ). counted (results_verdict room n) n) (sym (a.only b.rows b.counts)) ∙ sym b.is
one_await (Err f) w room r q a b = a ∙ sym b

one_answer : (pass : Pass) (stage : Stage) (o : LinkOptions) (w : Meaning) (lent : Lent) (room : ℕ) (r q : Result ℕ Fault) → Answers pass stage o w lent room r → Answers pass stage o w lent room q → r ≡ q
one_answer Kinds stage o w lent room r q a b = a ∙ sym b
one_answer Star stage o w lent room r q a b = a ∙ sym b
one_answer Wrap stage o w lent room r q a b = a ∙ sym b
one_answer Await stage o w lent room r q a b = one_await _ w room r q a b
one_answer Entries stage o w lent room r q a b = a ∙ sym b

one_marks : (pass : Pass) (w : Meaning) (o : LinkOptions) (r : Result ℕ Fault) (old xs ys : List MarkRow) → Leaves (PassDid pass w o) r old xs → Leaves (PassDid pass w o) r old ys → xs ≡ ys
one_marks pass w o (Ok n) old xs ys a b = one_outcome w o pass old xs ys a b
one_marks pass w o (Err f) old xs ys a b = a ∙ sym b

module _ (w : Meaning) (proper : Proper w) (targets : Targets w) where
  one_after : (pass : Pass) (r : Result ℕ Fault) (old xs ys : List AwaitRow) → ListAfter pass w r old xs → ListAfter pass w r old ys → xs ≡ ys
  one_after Kinds r old xs ys a b = a ∙ sym b
  one_after Star r old xs ys a b = a ∙ sym b
  one_after Wrap r old xs ys a b = a ∙ sym b
  one_after Await (Ok n) old xs ys a b = one_list w proper targets old xs ys n a b
  one_after Await (Err f) old xs ys a b = a ∙ sym b
  one_after Entries r old xs ys a b = a ∙ sym b

  one_made : (pass : Pass) (lent : Lent) (room : ℕ) (r q : Result ℕ Fault) (s t u : At) → Made w pass lent room r s t → Made w pass lent room q s u → (r ≡ q) × (t ≡ u)
  one_made pass lent room r q s t u a b =
      let is = one_answer pass s.link.stage s.link.options w lent room r q a.answers b.answers in
      let c = subst (λ (z : Result ℕ Fault). Made w pass lent room z s u) (sym is) b in
      (is, same_at t u (same_link t.link u.link (a.options ∙ sym c.options) (a.stage ∙ sym c.stage)) (one_marks pass w s.link.options r s.marks t.marks u.marks a.marks c.marks) (one_after pass r s.list t.list u.list a.list c.list))

  one_went : {arrows places : ℕ} {xs ys zs : List Asked} {s t u : At} → Went w arrows places xs ys s t → Went w arrows places xs zs s u → (ys ≡ zs) × (t ≡ u)
  one_went done done = (refl, refl)
  one_went {arrows} {places} (next {x} {y} {xs} {ys} {r} {s} {t} {u} e m rest) (next {y = z} {ys = zs} {r = q} {t = v} {u = last} f n more) =
      let here = one_made x.pass _ _ r q s t v m n in
      let there = one_went rest (subst (λ (p : At). Went w arrows places xs zs p last) (sym here.1) more) in
      let row : y ≡ z = e ∙ ap (answered x) here.0 ∙ sym f in
      ((λ i. row i ∷ there.0 i), there.1)

pub one_run : OneRun
one_run w o arrows places asked answers others old new end proper targets a b =
    let same = same_at b.first a.first (same_link b.first.link a.first.link (b.options ∙ sym a.options) (b.stage ∙ sym a.stage)) (one_begin w old.marks b.first.marks a.first.marks b.marks a.marks) (b.list ∙ sym a.list) in
    one_went w proper targets a.calls (subst (λ (p : At). Went w arrows places asked others p end) same b.calls)
