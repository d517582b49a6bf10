-- Calls go on by one. Assumes nothing.
use Rattle.std.proofs.Common.{◌≡◌, ℕ, ◌+◌, ◌<◌, ◌≤◌, List, [], ◌∷◌, ◌++◌, length, take, drop, set, Result, sym, refl, ap, ◌∙◌, subst, arith}
use Rattle.std.proofs.lemmas.List.{take_more, take_more_set, take_all, get_or-set_other, length-set}
use Rattle.faults.specs.declared.Fault.{Fault}
use Rattle.source.specs.Meaning.{Meaning}
use Rattle.marks.specs.declared.rows.AwaitRow.{AwaitRow}
use Rattle.marks.specs.declared.rows.MarkRow.{MarkRow}
use Rattle.lawful.specs.declared.check.Lent.{Lent}
use Rattle.link.specs.declared.calls.Link.{Link}
use Rattle.settled.specs.declared.calls.Asked.{Asked}
use Rattle.settled.specs.declared.calls.Pass.{Pass}
use Rattle.settled.specs.declared.calls.Pass.TheVariants.{Kinds, Star, Wrap, Await, Entries}
use Rattle.settled.specs.Runs.{call_at, no_call}
use Rattle.runs.specs.Made.{At, shortest, Answers, ListAfter, Made, MadeOf, answered, Went, done, next}
use Rattle.runs.proofs.Cut.{same_list, await_longer}

pub shortest_as : {a b c d e p q r s t : ℕ} → a ≡ p → b ≡ q → c ≡ r → d ≡ s → e ≡ t → shortest a b c d e ≡ shortest p q r s t
shortest_as f g h k l = λ i. shortest (f i) (g i) (h i) (k i) (l i)

-- what a call does with the front of the list it does with the list
module _ (w : Meaning) (r : Result ℕ Fault) (link last : Link) (marks left : List MarkRow) (room : ℕ) (xs ys : List AwaitRow) (fits : room ≤ length xs) where
  list_longer : (pass : Pass) (lent : Lent) → Answers pass link.stage link.options w lent room r → ListAfter pass w r (take room xs) ys → ListAfter pass w r xs (ys ++ drop room xs)
  list_longer Kinds lent a e = same_list room xs ys fits e
  list_longer Star lent a e = same_list room xs ys fits e
  list_longer Wrap lent a e = same_list room xs ys fits e
  list_longer Await lent a e = await_longer room xs ys fits w _ r a e
  list_longer Entries lent a e = same_list room xs ys fits e

  pub made_longer : (pass : Pass) (lent : Lent) → Made w pass lent room r (record { link = link; marks = marks; list = take room xs }) (record { link = last; marks = left; list = ys })
      → Made w pass lent room r (record { link = link; marks = marks; list = xs }) (record { link = last; marks = left; list = ys ++ drop room xs })
  made_longer pass lent m = record {
    answers = m.answers;
    stage = m.stage;
    options = m.options;
    marks = m.marks;
    list = list_longer pass lent m.answers m.list;
  }

module _ (w : Meaning) (arrows places : ℕ) where
  push : {xs ys : List Asked} {s t : At} (x y : Asked) (r : Result ℕ Fault) (u : At) → Went w arrows places xs ys s t → y ≡ answered x r → MadeOf w arrows places x r t u → Went w arrows places (xs ++ x ∷ []) (ys ++ y ∷ []) s u
  push x y r u done e m = next {r = r} e m done
  push x y r u (next {r = q} f n rest) e m = next {r = q} f n (push x y r u rest e m)

  -- the first i calls are made, and the others stand as they were asked
  pub record Turned (asked cur : List Asked) (i : ℕ) (first last : At) : Type 0 where
    pub went : Went w arrows places (take i asked) (take i cur) first last
    pub rest : (j : ℕ) → i ≤ j → call_at cur j ≡ call_at asked j
    pub long : length cur ≡ length asked

  pub turned_none : (asked : List Asked) (first : At) → Turned asked asked 0 first first
  turned_none asked first = record { went = done; rest = λ j le. refl; long = refl }

  pub turned_more : (asked cur : List Asked) (i : ℕ) (first last after : At) (r : Result ℕ Fault) → i < length cur → Turned asked cur i first last → MadeOf w arrows places (call_at cur i) r last after → Turned asked (set cur i (answered (call_at cur i) r)) (i + 1) first after
  turned_more asked cur i first last after r h t m =
      let here = t.rest i (omega arith) in
      let y = answered (call_at cur i) r in
      record {
        went = subst (λ (xs : List Asked). Went w arrows places xs (take (i + 1) (set cur i y)) first after) (sym (take_more asked i no_call (omega (arith, t.long))))
            (subst (λ (ys : List Asked). Went w arrows places (take i asked ++ call_at asked i ∷ []) ys first after) (sym (take_more_set cur i y h))
            (push (call_at asked i) y r after t.went (ap (λ (x : Asked). answered x r) here) (subst (λ (x : Asked). MadeOf w arrows places x r last after) here m)));
        rest = λ j le. get_or-set_other cur i j y no_call (λ e. omega arith) ∙ t.rest j (omega arith);
        long = length-set cur i y ∙ t.long;
      }

  pub turned_all : (asked cur : List Asked) (i : ℕ) (first last : At) → length cur ≤ i → Turned asked cur i first last → Went w arrows places asked cur first last
  turned_all asked cur i first last h t =
      subst (λ (xs : List Asked). Went w arrows places xs cur first last) (take_all i asked (omega (arith, t.long)))
      (subst (λ (ys : List Asked). Went w arrows places (take i asked) ys first last) (take_all i cur h) t.went)
