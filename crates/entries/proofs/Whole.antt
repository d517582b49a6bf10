-- The parts of the entries pass together do what it promises. Assumes nothing.
use Rattle.std.proofs.Common.{◌≡◌, ℕ, ◌^◌, ◌<◌, ◌≤◌, true, ltb, ◌↔◌, List, length, get_or, sym, ap, ◌∙◌, subst, inl, inr, arith, pow_pos}
use lib.Bits.{or_lt}
use lib.Pow.{pow-lt}
use Rattle.std.proofs.lemmas.Bool.{cases_Bool, cond-true, cond-false, lt-ltb}
use Rattle.source.specs.Meaning.{Meaning, count_of, module_at}
use Rattle.marks.specs.declared.options.LinkOptions.{LinkOptions}
use Rattle.marks.specs.declared.rows.MarkRow.{MarkRow}
use Rattle.marks.specs.Passes.{EntriesDid, EntriesTo, Brings, is_entry, rank}
use Rattle.marks.specs.Records.{Leads, here, along}
use Rattle.marks.specs.Rules.{agrees, is_wrapped, read_wrap}
use Rattle.marks.specs.Rows.{row_at, Written}
use Rattle.marks.proofs.Records.{leads_as, normal_below}
use Rattle.marks.proofs.Writes.{read_agrees, read_again, raised_stays}
use Rattle.spread.specs.declared.arrow.Arrow.{Arrow}
use Rattle.spread.specs.declared.entry_set.EntrySet.{EntrySet}
use Rattle.spread.specs.Kinds.{no_entry, union, single_entry, Holds}
use Rattle.spread.specs.Leads as arrows
use Rattle.spread.specs.Spread.{Made, nothing, one, both}
use Rattle.spread.proofs.EntrySets.{entry_from, entry_to, single_holds, holds_single, none_holds}
use Rattle.ways.specs.declared.Way.TheVariants.{Entries}
use Rattle.ways.specs.Ways.{Carried}
use Rattle.ways.proofs.Steps.{entries_to, entries_from}
use Rattle.entries.specs.Starts.{start_of, Ranked, EnteredRow}
use Rattle.entries.proofs.Ranks.{entry_below, rank_below, rank_only}

-- what holds a rank at the start is the entry of that rank
start_holds : (w : Meaning) (q r : ℕ) → Holds (start_of w q) r → (is_entry (module_at w q) ≡ true) × (r ≡ rank w q)
start_holds w q r e = elim (cases_Bool (is_entry (module_at w q))) [
  | inl y ↦ (y, holds_single (rank w q) r (subst (λ (s : EntrySet). Holds s r) (cond-true _ (single_entry (rank w q)) no_entry y) e))
  | inr n ↦ absurd (none_holds r (subst (λ (s : EntrySet). Holds s r) (cond-false _ (single_entry (rank w q)) no_entry n) e))
]

made_small : (k : ℕ) {rows : List Arrow} {start : List EntrySet} {p : ℕ} {v : EntrySet} → ((q : ℕ) → arrows.Leads rows q p → (get_or start q no_entry).0 < 2 ^ k) → Made no_entry union rows start p v → v.0 < 2 ^ k
made_small k h nothing = pow_pos k
made_small k h (one {q} l) = h q l
made_small k h (both {x} {y} a b) = or_lt k x.0 y.0 (made_small k h a) (made_small k h b)

module _ (w : Meaning) (rows new : List MarkRow) (starts facts : List EntrySet)
    (enough : count_of w ≤ length starts)
    (few : rank w (count_of w) ≤ 64)
    (ranked : Ranked (count_of w) w starts)
    (carried : Carried no_entry union Entries w starts facts)
    (written : Written (count_of w) (EnteredRow facts) rows new) where
  -- what leads to a module is a module
  from_below : {q p : ℕ} → Leads (Brings w) q p → p < count_of w → q < count_of w
  from_below here h = h
  from_below (along {a} (inl s) l) h = from_below l (normal_below w a s.1.importer)
  from_below (along {a} (inr s) l) h = from_below l (normal_below w a s.1.importer)

  start_small : (q : ℕ) → q < count_of w → (get_or starts q no_entry).0 < 2 ^ rank w (count_of w)
  start_small q h = subst (λ (s : EntrySet). s.0 < 2 ^ rank w (count_of w)) (sym (ranked q h)) (elim (cases_Bool (is_entry (module_at w q))) [
    | inl y ↦
        (let below = rank_below w q (count_of w) y h (omega arith) in
        let short : rank w q < 64 = omega arith in
        subst (λ (s : EntrySet). s.0 < 2 ^ rank w (count_of w)) (sym (cond-true _ (single_entry (rank w q)) no_entry y))
        (subst (λ (n : ℕ). n < 2 ^ rank w (count_of w)) (sym (cond-true (ltb (rank w q) 64) (2 ^ rank w q) 0 (lt-ltb (rank w q) 64 short))) (pow-lt below)))
    | inr n ↦ subst (λ (s : EntrySet). s.0 < 2 ^ rank w (count_of w)) (sym (cond-false _ (single_entry (rank w q)) no_entry n)) (pow_pos (rank w (count_of w)))
  ])

  module _ (m : ℕ) (h : m < count_of w) where
    led_below : (q : ℕ) → arrows.Leads carried.rows q m → q < count_of w
    led_below q l = from_below (leads_as (entries_to w) ((carried.leads q m).0 l)) h

    each : (q : ℕ) → is_entry (module_at w q) ≡ true → Holds (get_or facts m no_entry) (rank w q) ↔ Leads (Brings w) q m
    each q e = (
      λ y.
          let f = entry_from (rank w q) carried.rows starts facts carried.spread m (omega arith) y in
          let below = led_below f.0 f.1 in
          let s = start_holds w f.0 (rank w q) (subst (λ (x : EntrySet). Holds x (rank w q)) (ranked f.0 below) f.2) in
          subst (λ (x : ℕ). Leads (Brings w) x m) (sym (rank_only w q f.0 e s.0 s.1)) (leads_as (entries_to w) ((carried.leads f.0 m).0 f.1)),
      λ l.
          let below = entry_below w q e in
          let less = rank_below w q (count_of w) e below (omega arith) in
          entry_to (rank w q) carried.rows starts facts carried.spread q m (omega arith) ((carried.leads q m).1 (leads_as (entries_from w) l))
          (subst (λ (x : EntrySet). Holds x (rank w q)) (sym (ranked q below)) (subst (λ (x : EntrySet). Holds x (rank w q)) (sym (cond-true _ (single_entry (rank w q)) no_entry e)) (single_holds (rank w q) (omega arith)))),
    )

    to : EntriesTo w m (get_or facts m no_entry).0
    to = record { each = each; no_more = made_small (rank w (count_of w)) (λ q l. start_small q (led_below q l)) (carried.spread.made m (omega arith)) }

  pub entries_did : (o : LinkOptions) → EntriesDid w o rows new
  entries_did o = record {
    long = written.long;
    past = written.rest;
    rule = λ m h. ap (λ (r : MarkRow). agrees r.kind r.wrap) (written.each m h) ∙ read_agrees (row_at rows m).kind (row_at rows m).wrap;
    kind = λ m h. ap (λ (r : MarkRow). r.kind) (written.each m h);
    wrap = λ m h. raised_stays (ap (λ (r : MarkRow). is_wrapped (read_wrap r.kind r.wrap)) (written.each m h) ∙ ap is_wrapped (read_again (row_at rows m).kind (row_at rows m).wrap));
    required = λ m h. raised_stays (ap (λ (r : MarkRow). r.required) (written.each m h));
    dynamic = λ m h. raised_stays (ap (λ (r : MarkRow). r.dynamic) (written.each m h));
    awaiting = λ m h. raised_stays (ap (λ (r : MarkRow). r.awaiting) (written.each m h));
    entries = λ m h. subst (EntriesTo w m) (sym (ap (λ (r : MarkRow). r.entries) (written.each m h))) (to m h);
  }
