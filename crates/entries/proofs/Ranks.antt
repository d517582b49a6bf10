-- Ranks of entry modules, in module order. Assumes nothing.
use Rattle.std.proofs.Common.{◌≡◌, ℕ, zero, suc, ◌+◌, ◌-◌, ◌<◌, ◌≤◌, true, false, cond, List, length, get_or, set, sym, ap, ◌∙◌, subst, inl, inr, arith}
use mathlib.Core.Bool.{false≢true}
use Rattle.std.proofs.lemmas.List.{get_or-set_same, get_or-set_other}
use Rattle.std.proofs.lemmas.List.Sums.{count_by_more_yes, count_by_more_no, sum_by_more}
use Rattle.std.proofs.lemmas.Bool.{cases_eq, cases_lt, cases_order}
use Rattle.source.specs.Meaning.{Meaning, Scanned, count_of, module_at, past_modules}
use Rattle.marks.specs.Passes.{is_entry, entry_scanned, rank}
use Rattle.marks.proofs.Records.{past_external}
use Rattle.spread.specs.declared.entry_set.EntrySet.{EntrySet}
use Rattle.spread.specs.Kinds.{no_entry}
use Rattle.entries.specs.Starts.{start_of, Ranked}

pub entry_below : (w : Meaning) (m : ℕ) → is_entry (module_at w m) ≡ true → m < count_of w
entry_below w m e = elim (cases_lt m (count_of w)) [ inl lt ↦ lt | inr ge ↦ absurd (false≢true (sym (ap is_entry (past_external w m ge)) ∙ e)) ]

module _ (w : Meaning) (m : ℕ) (h : m < count_of w) where
  pub rank_yes : is_entry (module_at w m) ≡ true → rank w (m + 1) ≡ rank w m + 1
  rank_yes e = count_by_more_yes entry_scanned w.modules m past_modules h e

  pub rank_no : is_entry (module_at w m) ≡ false → rank w (m + 1) ≡ rank w m
  rank_no e = count_by_more_no entry_scanned w.modules m past_modules h e

  pub ranked_more : (facts : List EntrySet) (s : EntrySet) → m < length facts → s ≡ start_of w m → Ranked m w facts → Ranked (m + 1) w (set facts m s)
  ranked_more facts s lt e r k le = elim (cases_eq k m) [
    | inl q ↦ subst (λ (x : ℕ). get_or (set facts m s) x no_entry ≡ start_of w x) (sym q) (get_or-set_same facts m s no_entry lt ∙ e)
    | inr ne ↦ get_or-set_other facts m k s no_entry ne ∙ r k (omega arith)
  ]

-- ranks grow with modules
pub rank_grows : (w : Meaning) (a k : ℕ) → a + k ≤ count_of w → rank w a ≤ rank w (a + k)
rank_grows w a zero h = let e : a + 0 ≡ a = omega arith in subst (λ (x : ℕ). rank w a ≤ rank w x) (sym e) (omega arith)
rank_grows w a (suc k) h =
    let e : a + suc k ≡ a + k + 1 = omega arith in
    let more = sum_by_more (λ (s : Scanned). cond (entry_scanned s) 1 0) w.modules (a + k) past_modules (omega arith) in
    subst (λ (x : ℕ). rank w a ≤ rank w x) (sym e) (omega (arith, more, rank_grows w a k (omega arith)))

-- an entry's rank is below that of every later module
pub rank_below : (w : Meaning) (a b : ℕ) → is_entry (module_at w a) ≡ true → a < b → b ≤ count_of w → rank w a < rank w b
rank_below w a b e lt le =
    let up = rank_yes w a (entry_below w a e) e in
    let on = rank_grows w (a + 1) (b - (a + 1)) (omega arith) in
    let same : a + 1 + (b - (a + 1)) ≡ b = omega arith in
    let there = subst (λ (x : ℕ). rank w (a + 1) ≤ rank w x) same on in
    omega (arith, up, there)

pub rank_only : (w : Meaning) (a b : ℕ) → is_entry (module_at w a) ≡ true → is_entry (module_at w b) ≡ true → rank w a ≡ rank w b → a ≡ b
rank_only w a b ea eb same = elim (cases_order a b) [
  | inl q ↦ q
  | inr o ↦ elim o [
    | inl lt ↦ (let k = rank_below w a b ea lt (let u = entry_below w b eb in omega arith) in absurd (omega arith))
    | inr gt ↦ (let k = rank_below w b a eb gt (let u = entry_below w a ea in omega arith) in absurd (omega arith))
  ]
]
