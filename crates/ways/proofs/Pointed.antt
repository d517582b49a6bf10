-- What one record does to the flags. Assumes nothing.
use Rattle.std.proofs.Common.{◌≡◌, ℕ, ◌<◌, true, List, length, set, sym, ap, ◌∙◌, inl, inr}
use Rattle.std.proofs.lemmas.List.{get_or-set_same, get_or-set_other}
use Rattle.std.proofs.lemmas.Bool.{cases_eq}
use Rattle.marks.specs.Rows.{Raised}
use Rattle.spread.specs.declared.yes_no.YesNo.{YesNo}
use Rattle.spread.specs.Kinds.{plain_no}
use Rattle.ways.specs.Targets.{flag}

-- the flag at t is raised
pub raised_at : (flags : List YesNo) (t : ℕ) → t < length flags → (x : ℕ) → Raised (x ≡ t) (flag flags x) (flag (set flags t (record { 0 = true })) x)
raised_at flags t h x = elim (cases_eq x t) [
  | inl e ↦ let now-yes = ap (λ (y : ℕ). flag (set flags t (record { 0 = true })) y) e ∙ ap (λ (y : YesNo). y.0) (get_or-set_same flags t (record { 0 = true }) plain_no h) in
      record { kept = λ o. now-yes; made = λ p. now-yes; only = λ n. inr e }
  | inr ne ↦ let same = ap (λ (y : YesNo). y.0) (get_or-set_other flags t x (record { 0 = true }) plain_no ne) in
      record { kept = λ o. same ∙ o; made = λ p. absurd (ne p); only = λ n. inl (sym same ∙ n) }
]
