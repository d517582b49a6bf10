use Rattle.std.proofs.Common.{◌≡◌, ℕ, List, ◌∷◌, ◌++◌, None, Option, sym, ap, ◌∙◌, subst, lit<}
use Rattle.std.proofs.lemmas.Str.Pattern.{split_parts, strip_prefix_char}
use Rattle.std.proofs.lemmas.Option.{MatchOption-at_some, MatchOption-at_none}
use Rattle.source.specs.declared.Span.{Span}
use Rattle.table_words.specs.Numbers.{Numbered, Spanned}
use Rattle.table_words.proofs.Numerals.{split_span, not_both, cons_tail}
use Rattle.table_words.proofs.numbers.read_span.Goals as goal

pub returns-in_err-start : goal.returns-in_err-start
returns-in_err-start c =
    let text = c.args.word.now in
    subst (λ (o : Option Span). Spanned text o) (sym c.from_residual.ensures)
    (λ start end m n e s t. MatchOption-at_none _ _ c.in_err-start.was (split_span text c.split_once.result c.split_once.ensures.cases start end m e s))

pub returns-in_err-end : goal.returns-in_err-end
returns-in_err-end c =
    let text = c.args.word.now in
    subst (λ (o : Option Span). Spanned text o) (sym c.from_residual-in_err-end.ensures)
    (λ start end m n e s t.
    let parts = MatchOption-at_some _ _ _ c.in_ok-start.was (split_span text c.split_once.result c.split_once.ensures.cases start end m e s) in
    MatchOption-at_none _ _ c.in_err-end.was (strip_prefix_char 46 c.in_ok-start.rest.now c.strip_prefix.result c.strip_prefix.ensures.cases (lit< tt)) end parts.1)

pub returns-in_err-read_number : goal.returns-in_err-read_number
returns-in_err-read_number c =
    let text = c.args.word.now in
    subst (λ (o : Option Span). Spanned text o) (sym c.from_residual-in_err-read_number.ensures)
    (λ start end m n e s t.
    let parts = MatchOption-at_some _ _ _ c.in_ok-start.was (split_span text c.split_once.result c.split_once.ensures.cases start end m e s) in
    not_both start m (subst (λ (x : List ℕ). Numbered x None) parts.0 c.in_err-read_number.ensures) s)

pub returns-in_err-read_number-2 : goal.returns-in_err-read_number-2
returns-in_err-read_number-2 c =
    let text = c.args.word.now in
    subst (λ (o : Option Span). Spanned text o) (sym c.from_residual-in_err-read_number-2.ensures)
    (λ start end m n e s t.
    let parts = MatchOption-at_some _ _ _ c.in_ok-start.was (split_span text c.split_once.result c.split_once.ensures.cases start end m e s) in
    let rest = MatchOption-at_some _ _ _ c.in_ok-end.was (strip_prefix_char 46 c.in_ok-start.rest.now c.strip_prefix.result c.strip_prefix.ensures.cases (lit< tt)) in
    let same : c.in_ok-end.end.now ≡ end = cons_tail (sym rest ∙ parts.1) in
    not_both end n (subst (λ (x : List ℕ). Numbered x None) same c.in_err-read_number-2.ensures) t)

pub returns : goal.returns
returns c =
    let text = c.args.word.now in
    let parts = MatchOption-at_some _ _ _ c.in_ok-start.was (split_parts 46 text c.split_once.result c.split_once.ensures.cases (lit< tt)) in
    let rest = MatchOption-at_some _ _ _ c.in_ok-end.was (strip_prefix_char 46 c.in_ok-start.rest.now c.strip_prefix.result c.strip_prefix.ensures.cases (lit< tt)) in (
      c.in_ok-start.start.now,
      c.in_ok-end.end.now,
      parts.0 ∙ ap (λ (x : List ℕ). c.in_ok-start.start.now ++ (46 ∷ x)) rest,
      c.in_ok-read_number.ensures,
      c.in_ok-read_number-2.ensures,
    )
