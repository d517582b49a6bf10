-- What a slice of a vector was written with is what the vector holds, and the first rows of a list are those of its front.
-- Assumes nothing.
use Rattle.std.proofs.Common.{◌≡◌, ℕ, ◌<◌, List, ◌++◌, length, take, drop, Ok, Err, Result, sym, ◌∙◌, subst, arith}
use Rattle.std.proofs.lemmas.List.{take_all, take-append-le, get_or-take}
use Rattle.std.specs.Result.{result_unwrap_or}
use Rattle.faults.specs.declared.Fault.{Fault}
use Rattle.source.specs.Meaning.{Meaning}
use Rattle.marks.specs.declared.options.LinkOptions.{LinkOptions}
use Rattle.marks.specs.declared.rows.MarkRow.{MarkRow}
use Rattle.marks.specs.declared.rows.WrapperRow.{WrapperRow}
use Rattle.runs.specs.Ended.{EndsSettled, wrapper_in, no_wrapper}

pub after_lend : {A : Type 0} (len : ℕ) (items last : List A) → length last ≡ len → take len (last ++ drop (length last) items) ≡ last
after_lend len items last e = take-append-le len last (drop (length last) items) (omega arith) ∙ take_all len last (omega arith)

module _ (w : Meaning) (o : LinkOptions) (rows : List MarkRow) (list : List WrapperRow) where
  front : (n i : ℕ) → i < n → wrapper_in (take n list) i ≡ wrapper_in list i
  front n i lt = get_or-take n list i no_wrapper lt

  pub ends_front : (r : Result ℕ Fault) → EndsSettled r w o rows list → EndsSettled r w o rows (take (result_unwrap_or r 0) list)
  ends_front (Err f) e = e
  ends_front (Ok n) e = record {
    marks = e.marks;
    each = λ m p. let x = e.each m p in (x.0, x.1, front n x.0 x.1 ∙ x.2);
    only = λ i lt. let x = e.only i lt in (x.0, x.1, front n i lt ∙ x.2);
    order = λ i j lt below.
        let first : i < n = omega arith in
        subst (λ (y : WrapperRow). (wrapper_in (take n list) i).«module» < y.«module») (sym (front n j below)) (subst (λ (x : WrapperRow). x.«module» < (wrapper_in list j).«module») (sym (front n i first)) (e.order i j lt below));
  }
