use Rattle.std.proofs.Common.{ℕ, Option, sym, subst, lit<}
use Rattle.std.proofs.lemmas.Str.Pattern.{starts_char}
use Rattle.std.proofs.lemmas.Bool.{both_ways}
use Rattle.table_words.specs.Numbers.{Numbered}
use Rattle.table_words.proofs.Numerals.{numbered}
use Rattle.table_words.proofs.numbers.read_number.Goals as goal

pub returns : goal.returns
returns c =
    let text = c.args.word.now in
    let plus = starts_char 43 text c.starts_with.result c.starts_with.ensures.cases (lit< tt) (lit< tt) in
    subst (λ (o : Option ℕ). Numbered text o) (sym c.ok.ensures.value)
    (numbered text c.parse.result (λ e. both_ways c.starts_with.result c.if-starts_with.false (plus.1 e)) c.parse.ensures.value.0)
