-- Wrapper rows, one module more. Assumes nothing.
use Rattle.std.proofs.Common.{◌≡◌, ℕ, zero, suc, ◌+◌, ◌-◌, ◌<◌, ◌≤◌, Bool, true, false, cond, List, [], ◌∷◌, ◌++◌, length, drop, set, sym, ap, ◌∙◌, subst, add-one, arith}
use Rattle.std.proofs.lemmas.List.{append-nil, append_assoc, length-append, length_push, set-append_right, drop_more}
use Rattle.source.specs.Meaning.{Meaning, module_at}
use Rattle.marks.specs.declared.options.LinkOptions.{LinkOptions}
use Rattle.marks.specs.declared.rows.MarkRow.{MarkRow}
use Rattle.marks.specs.Rows.{row_at}
use Rattle.wrappers.specs.Wrappers.{ends_wrapped, wrapper_row, wrapper_at, wrapper_rows}

module _ (w : Meaning) (o : LinkOptions) (rows : List MarkRow) where
  one_more : (m : ℕ) → wrapper_rows w o rows (m + 1) ≡ wrapper_rows w o rows m ++ wrapper_at w o rows m
  one_more m = ap (wrapper_rows w o rows) (add-one m)

  pub rows_yes : (m : ℕ) → ends_wrapped o (module_at w m) (row_at rows m) ≡ true → wrapper_rows w o rows (m + 1) ≡ wrapper_rows w o rows m ++ (wrapper_row o m (row_at rows m).kind ∷ [])
  rows_yes m e = one_more m ∙ ap (λ (b : Bool). wrapper_rows w o rows m ++ cond b (wrapper_row o m (row_at rows m).kind ∷ []) []) e

  pub rows_no : (m : ℕ) → ends_wrapped o (module_at w m) (row_at rows m) ≡ false → wrapper_rows w o rows (m + 1) ≡ wrapper_rows w o rows m
  rows_no m e = one_more m ∙ ap (λ (b : Bool). wrapper_rows w o rows m ++ cond b (wrapper_row o m (row_at rows m).kind ∷ []) []) e ∙ append-nil (wrapper_rows w o rows m)

  pub count_yes : (m : ℕ) → ends_wrapped o (module_at w m) (row_at rows m) ≡ true → length (wrapper_rows w o rows (m + 1)) ≡ length (wrapper_rows w o rows m) + 1
  count_yes m e = ap length (rows_yes m e) ∙ length_push (wrapper_rows w o rows m) (wrapper_row o m (row_at rows m).kind)

  pub rows_grow : (m k : ℕ) → length (wrapper_rows w o rows m) ≤ length (wrapper_rows w o rows (m + k))
  rows_grow m zero = let e : m + 0 ≡ m = omega arith in subst (λ (x : ℕ). length (wrapper_rows w o rows m) ≤ length (wrapper_rows w o rows x)) (sym e) (omega arith)
  rows_grow m (suc k) =
      let e : m + suc k ≡ suc (m + k) = omega arith in
      let more = length-append (wrapper_rows w o rows (m + k)) (wrapper_at w o rows (m + k)) in
      subst (λ (x : ℕ). length (wrapper_rows w o rows m) ≤ length (wrapper_rows w o rows x)) (sym e) (omega (arith, more, rows_grow m k))

  -- there is room for one more
  pub room : (m count size : ℕ) → m < count → length (wrapper_rows w o rows count) ≤ size → ends_wrapped o (module_at w m) (row_at rows m) ≡ true → length (wrapper_rows w o rows m) < size
  room m count size lt fits e =
      let on = rows_grow (m + 1) (count - (m + 1)) in
      let same : m + 1 + (count - (m + 1)) ≡ count = omega arith in
      let there = subst (λ (x : ℕ). length (wrapper_rows w o rows (m + 1)) ≤ length (wrapper_rows w o rows x)) same on in
      omega (arith, there, count_yes m e)

-- a row written behind those that are done
pub set_behind : {X : Type 0} (done : List X) (old : List X) (n : ℕ) (x d : X) → n ≡ length done → n < length old → set (done ++ drop n old) n x ≡ (done ++ (x ∷ [])) ++ drop (n + 1) old
set_behind done old n x d e h =
    set-append_right done (drop n old) n n x (sym e) (omega arith)
    ∙ ap (λ (k : ℕ). done ++ set (drop n old) k x) (let z : n - n ≡ 0 = omega arith in z)
    ∙ ap (λ (ys : List _). done ++ set ys 0 x) (drop_more old n d h)
    ∙ sym (append_assoc done (x ∷ []) (drop (n + 1) old))
