-- What an accepted check tells: everything that a pass asks for. Assumes nothing.
use Rattle.std.proofs.Common.{◌≡◌, ℕ, ◌+◌, ◌<◌, ◌≤◌, true, false, not, ltb, length, is_ok, Some, Ok, Option, sym, ap, ◌∙◌, subst, arith}
use Rattle.std.proofs.lemmas.Bool.{ltb-false, leb-false, or_parts}
use Rattle.faults.specs.declared.Refusal.TheVariants.{TooManyModules, TooManyRecords, MarksTooShort, WorkTooShort, RuntimeNotEsm, TargetPastEnd}
use Rattle.faults.specs.Faults.{refuse_if}
use Rattle.faults.proofs.Checks.{accepted, accepted_if, accepted_first, accepted_second, accepted_each}
use Rattle.source.specs.declared.Module.{Module}
use Rattle.source.specs.declared.NormalModule.{NormalModule}
use Rattle.source.specs.declared.Module.TheVariants.{Normal}
use Rattle.source.specs.Meaning.{Meaning, count_of, module_at, scanned_at, records_of, record_at, past_modules, past_records, record_total}
use Rattle.source.specs.Numbers.{module_limit, record_limit}
use Rattle.marks.specs.declared.options.LinkOptions.{LinkOptions}
use Rattle.marks.proofs.Records.{normal_below, points_in}
use Rattle.ways.specs.Ways.{Targets}
use Rattle.lawful.specs.declared.check.Lent.{Lent}
use Rattle.lawful.specs.Lawful.{link_fault, past_end, record_verdict, scanned_verdict, module_verdict, records_verdict, is_esm, work_short, since_runtime, since_work, since_marks, since_records, source_verdict}

module _ (o : LinkOptions) (w : Meaning) (lent : Lent) (ok : source_verdict o w lent ≡ Ok tt) where
  first : is_ok (source_verdict o w lent) ≡ true
  first = accepted (source_verdict o w lent) ok

  second : is_ok (since_records o w lent) ≡ true
  second = accepted_second (refuse_if (ltb module_limit (count_of w)) (link_fault TooManyModules 0 0)) (since_records o w lent) first

  third : is_ok (since_marks o w lent) ≡ true
  third = accepted_second (refuse_if (ltb record_limit (record_total w)) (link_fault TooManyRecords 0 0)) (since_marks o w lent) second

  fourth : is_ok (since_work o w lent) ≡ true
  fourth = accepted_second (refuse_if (ltb lent.marks (count_of w)) (link_fault MarksTooShort 0 0)) (since_work o w lent) third

  pub fifth : is_ok (since_runtime o w) ≡ true
  fifth = accepted_second (refuse_if (work_short lent.work (count_of w) (record_total w)) (link_fault WorkTooShort 0 0)) (since_runtime o w) fourth

  pub small : count_of w ≤ 4096
  small = ltb-false module_limit (count_of w) (accepted_if _ (link_fault TooManyModules 0 0) (accepted_first (refuse_if (ltb module_limit (count_of w)) (link_fault TooManyModules 0 0)) (since_records o w lent) first))

  pub few : record_total w ≤ 32768
  few = ltb-false record_limit (record_total w) (accepted_if _ (link_fault TooManyRecords 0 0) (accepted_first (refuse_if (ltb record_limit (record_total w)) (link_fault TooManyRecords 0 0)) (since_marks o w lent) second))

  pub marked : count_of w ≤ lent.marks
  marked = ltb-false lent.marks (count_of w) (accepted_if _ (link_fault MarksTooShort 0 0) (accepted_first (refuse_if (ltb lent.marks (count_of w)) (link_fault MarksTooShort 0 0)) (since_work o w lent) third))

  enough : work_short lent.work (count_of w) (record_total w) ≡ false
  enough = accepted_if _ (link_fault WorkTooShort 0 0) (accepted_first (refuse_if (work_short lent.work (count_of w) (record_total w)) (link_fault WorkTooShort 0 0)) (since_runtime o w) fourth)

  pub worked : (arrows other : ℕ) → lent.work ≡ Some (arrows, other) → (record_total w ≤ arrows) × (count_of w ≤ other)
  worked arrows other e =
      let parts = or_parts (ltb arrows (record_total w)) (ltb other (count_of w)) (sym (ap (λ (x : Option (ℕ × ℕ)). work_short x (count_of w) (record_total w)) e) ∙ enough) in
      (ltb-false arrows (record_total w) parts.0, ltb-false other (count_of w) parts.1)

  pub record_ok : (m k : ℕ) (n : NormalModule) → module_at w m ≡ Normal n → m < count_of w → k < length (records_of w m) → is_ok (record_verdict o w n m k (record_at w m k)) ≡ true
  record_ok m k n is lt h =
      let all = accepted_second (refuse_if (not (is_esm (module_at w w.runtime))) (link_fault RuntimeNotEsm 0 0)) (records_verdict o w) fifth in
      let zero_plus : 0 + m ≡ m = omega arith in
      let module-ok = subst (λ (x : ℕ). is_ok (module_verdict o w x (scanned_at w m)) ≡ true) zero_plus (accepted_each (module_verdict o w) 0 w.modules all m past_modules lt) in
      let here = subst (λ (d : Module). is_ok (scanned_verdict o w m (scanned_at w m) d) ≡ true) is module-ok in
      let zero_k : 0 + k ≡ k = omega arith in
      subst (λ (x : ℕ). is_ok (record_verdict o w n m x (record_at w m k)) ≡ true) zero_k (accepted_each (record_verdict o w n m) 0 (records_of w m) here k past_records h)

  pub targeted : Targets w
  targeted m t (k, kind, p) =
      let n = p.importer in
      let ok-here = record_ok m k n.0 n.1 (normal_below w m n) (points_in w m k t kind p) in
      let not-past = accepted_if (past_end w (record_at w m k).target) (link_fault TargetPastEnd m k) (accepted_first (refuse_if (past_end w (record_at w m k).target) (link_fault TargetPastEnd m k)) _ ok-here) in
      leb-false (count_of w) t (sym (ap (past_end w) p.to) ∙ not-past)
