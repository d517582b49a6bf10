use Rattle.std.proofs.Common.{◌≡◌, ℕ, ◌<◌, ◌≤◌, false, Some, None, Option, Ok, Err, MatchOption, refl, sym, ◌∙◌, subst, arith}
use Rattle.std.specs.Option.{IsSome}
use Rattle.std.specs.Result.{is_err}
use Rattle.faults.specs.Faults.{Verdict}
use Rattle.source.specs.Meaning.{record_total}
use Rattle.card.specs.Cards.{card_meaning}
use Rattle.card.specs.Writable.{Exact}
use Rattle.card_writer.proofs.Told.{opened_records}
use Rattle.tuchovai_c.proofs.calls.tuchovai_table_size.Goals as goal

accepted : (v : Verdict) → is_err v ≡ false → v ≡ Ok tt
accepted (Ok u) e = refl
accepted (Err f) e = cc

counted : (o : Option ℕ) (total : ℕ) → MatchOption o (32768 < total) (λ n. (n ≡ total) × (n ≤ 32768)) → total ≤ 32768 → IsSome o
counted (Some n) total m h = refl
counted None total m h = absurd (omega arith)

pub unwrap-records-requires : goal.unwrap-records-requires
unwrap-records-requires c =
    let image = c.args.image.now in
    let w = card_meaning c.open-source.result.image.now in
    let ok = accepted c.check_card.result (sym c.is_err.ensures.value ∙ c.if-is_err.false) in
    counted c.count_records.result (record_total w) c.count_records.ensures
    (opened_records image w (sym c.check_card.ensures.verdict ∙ ok) c.open-source.ensures (subst (Exact image) ok c.check_card.ensures.exact))
