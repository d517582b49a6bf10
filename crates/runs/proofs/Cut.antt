-- A call that is lent the front of the list leaves the rest of it. Assumes nothing.
use Rattle.std.proofs.Common.{◌≡◌, ℕ, ◌+◌, ◌-◌, ◌<◌, ◌≤◌, Bool, ltb, List, ◌++◌, length, take, drop, Ok, Err, Result, sym, ap, ◌∙◌, subst, inl, inr, arith}
use Rattle.std.proofs.lemmas.List.{take-append-drop, length-append, length-take-le, get_or_append_left, get_or-append_right, get_or-take, get_or-drop}
use Rattle.std.proofs.lemmas.Bool.{cases_Bool, cases_lt, ltb-false}
use Rattle.faults.specs.declared.Fault.{Fault}
use Rattle.faults.specs.declared.Refusal.TheVariants.{ResultsTooShort}
use Rattle.faults.specs.Faults.{Verdict, refuse_if}
use Rattle.source.specs.declared.ImportKind.TheVariants.{Require}
use Rattle.source.specs.Meaning.{Meaning}
use Rattle.marks.specs.declared.rows.AwaitRow.{AwaitRow}
use Rattle.marks.proofs.Records.{normal_below, points_in}
use Rattle.lawful.specs.Lawful.{link_fault}
use Rattle.tla.specs.Rows.{no_row, row_in, row_place, RowOf, AwaitRows}
use Rattle.tla.proofs.Places.{points_give, place_room}
use Rattle.link.specs.Calls.{results_verdict, counted, AwaitAnswer, AwaitLeaves}

pub ok_err : {n : ℕ} {f : Fault} → ◌≡◌ {A = Result ℕ Fault} (Ok n) (Err f) → ⊥
ok_err e = let z : ◌≡◌ {A = ℕ} 0 1 = cc in omega arith

-- an accepted count fits
count_fits : (room rows n : ℕ) → Ok n ≡ counted (results_verdict room rows) rows → n ≤ room
count_fits room rows n e = elim (cases_Bool (ltb room rows)) [
  | inl short ↦ absurd (ok_err (e ∙ ap (λ (b : Bool). counted (refuse_if b (link_fault ResultsTooShort 0 0)) rows) short))
  | inr fits ↦
      let same : ◌≡◌ {A = Result ℕ Fault} (Ok n) (Ok rows) = e ∙ ap (λ (b : Bool). counted (refuse_if b (link_fault ResultsTooShort 0 0)) rows) fits in
      let is : n ≡ rows = cc in
      omega (arith, is, ltb-false room rows fits)
]

await_fits : (v : Verdict) (w : Meaning) (room n : ℕ) → AwaitAnswer v w room (Ok n) → n ≤ room
await_fits (Ok u) w room n a = count_fits room a.rows n a.is
await_fits (Err f) w room n a = absurd (ok_err a)

module _ (room : ℕ) (xs ys : List AwaitRow) (lent : room ≤ length xs) where
  pub same_list : ys ≡ take room xs → ys ++ drop room xs ≡ xs
  same_list e = ap (λ (zs : List AwaitRow). zs ++ drop room xs) e ∙ take-append-drop room xs

  module _ (w : Meaning) (n : ℕ) (fits : n ≤ room) (rows : AwaitRows w (take room xs) ys n) where
    whole : length ys ≡ room
    whole = rows.long ∙ length-take-le room xs lent

    in_front : (i : ℕ) → i < room → row_in (ys ++ drop room xs) i ≡ row_in ys i
    in_front i lt = get_or_append_left ys (drop room xs) no_row i (omega (arith, whole))

    longer : AwaitRows w xs (ys ++ drop room xs) n
    longer = record {
      waits = rows.waits;
      when = rows.when;
      count = rows.count;
      all = rows.all;
      long = length-append ys (drop room xs) ∙ ap (λ (k : ℕ). k + length (drop room xs)) rows.long ∙ sym (length-append (take room xs) (drop room xs)) ∙ ap (λ (zs : List AwaitRow). length zs) (take-append-drop room xs);
      each = λ m k t p a.
          let gives = points_give w rows.waits m k t p ((rows.when t (normal_below w t a.normal)).1 a) in
          let place = place_room w rows.waits m (normal_below w m p.importer) k (points_in w m k t Require p) gives in
          subst (RowOf w m k t) (sym (in_front (row_place w rows.waits m k) (omega (arith, place, rows.count)))) (rows.each m k t p a);
      rest = λ i le. elim (cases_lt i room) [
        | inl lt ↦ in_front i lt ∙ rows.rest i le ∙ get_or-take room xs i no_row lt
        | inr ge ↦
            let at : room + (i - room) ≡ i = omega arith in
            get_or-append_right ys (drop room xs) room i no_row whole ge ∙ get_or-drop room xs (i - room) no_row ∙ ap (row_in xs) at
      ];
    }

  pub await_longer : (w : Meaning) (v : Verdict) (r : Result ℕ Fault) → AwaitAnswer v w room r → AwaitLeaves w r (take room xs) ys → AwaitLeaves w r xs (ys ++ drop room xs)
  await_longer w v (Ok n) a rows = longer w n (await_fits v w room n a) rows
  await_longer w v (Err f) a e = same_list e
