-- The wrapper rows are those of the modules that end wrapped, in module order. Assumes nothing.
use Rattle.std.proofs.Common.{◌≡◌, ℕ, zero, suc, ◌+◌, ◌<◌, ◌≤◌, Bool, true, cond, List, [], ◌∷◌, ◌++◌, length, sym, refl, ap, ◌∙◌, subst, inl, inr, arith}
use Rattle.std.proofs.lemmas.List.{append-nil, get_or_append_left, get_or_at, length_push}
use Rattle.std.proofs.lemmas.Bool.{both_ways, cases_Bool, cases_eq, cases_lt}
use Rattle.source.specs.declared.ExportsKind.{ExportsKind}
use Rattle.source.specs.declared.ExportsKind.TheVariants.{None as Unknown, Esm, CommonJs}
use Rattle.source.specs.Meaning.{Meaning, module_at}
use Rattle.marks.specs.declared.options.LinkOptions.{LinkOptions}
use Rattle.marks.specs.declared.rows.MarkRow.{MarkRow}
use Rattle.marks.specs.declared.rows.WrapperRow.{WrapperRow}
use Rattle.marks.specs.Rows.{row_at}
use Rattle.wrappers.specs.Wrappers.{ends_wrapped, wrapper_row, wrapper_rows}
use Rattle.runs.specs.Ended.{no_wrapper, wrapper_in}

row_module : (o : LinkOptions) (m : ℕ) (kind : ExportsKind) → (wrapper_row o m kind).«module» ≡ m
row_module o m Unknown = refl
row_module o m Esm = refl
row_module o m CommonJs = refl

module _ (w : Meaning) (o : LinkOptions) (rows : List MarkRow) where
  abbrev pub Ends : ℕ → Type 0
  Ends m = ends_wrapped o (module_at w m) (row_at rows m) ≡ true

  abbrev pub the_row : ℕ → WrapperRow
  the_row m = wrapper_row o m (row_at rows m).kind

  pub record Listed (n : ℕ) (list : List WrapperRow) : Type 0 where
    pub each : (m : ℕ) → m < n → Ends m → (i : ℕ) × (i < length list) × (wrapper_in list i ≡ the_row m)
    pub only : (i : ℕ) → i < length list → (m : ℕ) × (m < n) × Ends m × (wrapper_in list i ≡ the_row m)
    pub order : (i j : ℕ) → i < j → j < length list → (wrapper_in list i).«module» < (wrapper_in list j).«module»

  listed_over : (n : ℕ) (list : List WrapperRow) → (Ends n → ⊥) → Listed n list → Listed (suc n) list
  listed_over n list not-here l = record {
    each = λ m lt e. elim (cases_eq m n) [
      | inl q ↦ absurd (not-here (subst Ends q e))
      | inr ne ↦ l.each m (omega arith) e
    ];
    only = λ i lt. let x = l.only i lt in (x.0, let lt : x.0 < n = x.1 in omega arith, x.2, x.3);
    order = l.order;
  }

  module _ (n : ℕ) (list : List WrapperRow) (here : Ends n) (l : Listed n list) where
    abbrev more : List WrapperRow
    more = list ++ the_row n ∷ []

    long : length more ≡ length list + 1
    long = length_push list (the_row n)

    before : (i : ℕ) → i < length list → wrapper_in more i ≡ wrapper_in list i
    before i lt = get_or_append_left list (the_row n ∷ []) no_wrapper i lt

    last : (i : ℕ) → length list ≤ i → i < length more → wrapper_in more i ≡ the_row n
    last i ge lt = let is : length list ≡ i = omega (arith, long) in get_or_at list (the_row n) [] no_wrapper i is

    -- a row before the new one is of a module before it
    under : (i : ℕ) → i < length list → (wrapper_in list i).«module» < n
    under i lt =
        let x = l.only i lt in
        let is : (wrapper_in list i).«module» ≡ x.0 = ap (λ (r : WrapperRow). r.«module») x.3 ∙ row_module o x.0 (row_at rows x.0).kind in
        let below : x.0 < n = x.1 in
        omega (arith, is, below)

    listed_push : Listed (suc n) more
    listed_push = record {
      each = λ m lt e. elim (cases_eq m n) [
        | inl q ↦ (length list, omega (arith, long), last (length list) (omega arith) (omega (arith, long)) ∙ ap the_row (sym q))
        | inr ne ↦ let x = l.each m (omega arith) e in (x.0, let lt : x.0 < length list = x.1 in omega (arith, long), before x.0 x.1 ∙ x.2)
      ];
      only = λ i lt. elim (cases_lt i (length list)) [
        | inl old ↦ let x = l.only i old in (x.0, let lt : x.0 < n = x.1 in omega arith, x.2, before i old ∙ x.3)
        | inr new ↦ (n, omega arith, here, last i new lt)
      ];
      order = λ i j lt end. elim (cases_lt j (length list)) [
        | inl old ↦
            let first : i < length list = omega arith in
            let was = l.order i j lt old in
            let a = ap (λ (r : WrapperRow). r.«module») (before i first) in
            let b = ap (λ (r : WrapperRow). r.«module») (before j old) in
            omega (arith, was, a, b)
        | inr new ↦
            let first : i < length list = omega (arith, long) in
            let a = ap (λ (r : WrapperRow). r.«module») (before i first) in
            let b = ap (λ (r : WrapperRow). r.«module») (last j new end) ∙ row_module o n (row_at rows n).kind in
            omega (arith, under i first, a, b)
      ];
    }

  pub listed : (n : ℕ) → Listed n (wrapper_rows w o rows n)
  listed zero = record { each = λ m lt e. absurd (omega arith); only = λ i lt. absurd (omega arith); order = λ i j lt end. absurd (omega arith) }
  listed (suc n) = elim (cases_Bool (ends_wrapped o (module_at w n) (row_at rows n))) [
    | inl e ↦ subst (Listed (suc n)) (sym (ap (λ (b : Bool). wrapper_rows w o rows n ++ cond b (the_row n ∷ []) []) e)) (listed_push n (wrapper_rows w o rows n) e (listed n))
    | inr e ↦ subst (Listed (suc n)) (sym (ap (λ (b : Bool). wrapper_rows w o rows n ++ cond b (the_row n ∷ []) []) e ∙ append-nil (wrapper_rows w o rows n))) (listed_over n (wrapper_rows w o rows n) (λ y. both_ways _ e y) (listed n))
  ]
