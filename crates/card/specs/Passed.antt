-- That the check accepts exactly the images that are `Accepted`, and that these mean something proper.
--
--   accepted_from, accepted_to   from the verdict to `Accepted`, and back
--   Resolved, Sound              a record and a module as a proper meaning has them
--   proper_from                  a meaning is proper where each module is sound
--   target_resolved              a target field gives a target below 2^32 - 1, or none
--   Right, right_from            no field of a module's block is wrong, field by field
--   blank_at, blank_scanned      an external module's numbers are 0, and it has no records
--   card_proper                  the meaning of an accepted image is proper
use Rattle.std.specs.Prelude.{◌≡◌, ℕ, zero, suc, ◌+◌, ◌-◌, ◌*◌, ◌^◌, ◌<◌, Bool, true, false, cond, not, ◌&&◌, List, [], ◌∷◌, map, length, take, drop, is_ok, Some, None, Ok, Err, Result, ◌==◌, nat_lt, slice_index_or, refl}
use Rattle.std.proofs.Common.{sym, ap, subst, ◌∙◌, arith}
use Rattle.std.specs.List.{AllByRecursion}
use Rattle.std.proofs.ByRecursion.{All-take, All-drop}
use Rattle.std.proofs.lemmas.Bool.{ltb-true, ltb-false, le-ltb, eqb-true, eq-eqb, not-false, or_parts}
use Rattle.faults.specs.declared.Fault.{Fault}
use Rattle.faults.specs.declared.Refusal.TheVariants.{WrongLength, WrongBlockHead, FieldOutOfValues, WrongFirstRecord}
use Rattle.faults.specs.Faults.{Verdict, refuse_if, and_then}
use Rattle.source.specs.declared.ImportRecord.{ImportRecord}
use Rattle.source.specs.declared.Module.TheVariants.{External, Normal}
use Rattle.source.specs.declared.NormalModule.{NormalModule}
use Rattle.source.specs.Meaning.{Meaning, Scanned, Proper, past_modules, past_records, scanned_at}
use Rattle.card.specs.Bytes.{u32_le}
use Rattle.card.specs.Fields.{is_external, first_of, count_of, class_wrong, scanned_wrong, flags_wrong, await_start_wrong, await_end_wrong, count_wrong, not_blank, module_wrong, record_wrong}
use Rattle.card.specs.Cards.{fields_of, block_record, block_scanned, card_meaning, card_fault, go_on, head_wrong, head_verdict, module_count, module_end, modules_end, module_blocks, record_count, records_start, record_verdict, records_verdict, record_blocks, blocks_verdict, card_size, card_verdict, is_card}
use Rattle.card.specs.Accepted.{ModuleBlock, Chained, RecordBlock, Accepted}

-- a check that accepts: its test failed, and what follows accepts

passed_if : (t : Bool) (f : Fault) → refuse_if t f ≡ Ok tt → t ≡ false
passed_if true f e = let z : ◌≡◌ {A = ℕ} 0 1 = cc in absurd (omega arith)
passed_if false f e = refl

passed : (t : Bool) (f : Fault) (next : Verdict) → and_then (refuse_if t f) next ≡ Ok tt → (t ≡ false) × (next ≡ Ok tt)
passed true f next e = let z : ◌≡◌ {A = ℕ} 0 1 = cc in absurd (omega arith)
passed false f next e = (refl, e)

passes : (t : Bool) (f : Fault) (next : Verdict) → t ≡ false → next ≡ Ok tt → and_then (refuse_if t f) next ≡ Ok tt
passes true f next t e = let z : ◌≡◌ {A = ℕ} 0 1 = cc in absurd (omega arith)
passes false f next t e = e

both_passed : (v next : Verdict) → and_then v next ≡ Ok tt → (v ≡ Ok tt) × (next ≡ Ok tt)
both_passed (Ok u) next e = (refl, e)
both_passed (Err f) next e = let z : ◌≡◌ {A = ℕ} 0 1 = cc in absurd (omega arith)

both_pass : (v next : Verdict) → v ≡ Ok tt → next ≡ Ok tt → and_then v next ≡ Ok tt
both_pass v next e h = ap (λ (x : Verdict). and_then x next) e ∙ h

went_on : {A B : Type 0} (r : Result A Fault) (next : A → Result B Fault) (b : B) → go_on r next ≡ Ok b → (a : A) × (r ≡ Ok a) × (next a ≡ Ok b)
went_on (Ok a) next b e = (a, refl, e)
went_on (Err f) next b e = let z : ◌≡◌ {A = ℕ} 0 1 = cc in absurd (omega arith)

-- an equation that a check asks for
equal_from : (a b : ℕ) → not (a == b) ≡ false → a ≡ b
equal_from a b e = eqb-true a b (not-false (a == b) e)

equal_to : (a b : ℕ) → a ≡ b → not (a == b) ≡ false
equal_to a b e = ap not (eq-eqb a b e)

module_from : (m next : ℕ) (b : List ℕ) (end : ℕ) → module_end m next b ≡ Ok end → ModuleBlock next b × (next + count_of (fields_of b) ≡ end)
module_from m next b end e =
    let on = went_on (and_then (refuse_if (head_wrong 24 2 b) (card_fault WrongBlockHead (16 + 24 * m)))
    (and_then (refuse_if (module_wrong (fields_of b)) (card_fault FieldOutOfValues (16 + 24 * m)))
    (refuse_if (not (first_of (fields_of b) == next)) (card_fault WrongFirstRecord m)))) (λ _. Ok (next + count_of (fields_of b))) end e in
    let one = passed (head_wrong 24 2 b) _ _ on.1 in
    let two = passed (module_wrong (fields_of b)) _ _ one.1 in
    let three = passed_if (not (first_of (fields_of b) == next)) _ two.1 in
    (record { head = one.0; fields = two.0; first = equal_from (first_of (fields_of b)) next three }, let q = on.2 in cc)

chained_from : (m next : ℕ) (bs : List (List ℕ)) (end : ℕ) → modules_end m next bs ≡ Ok end → Chained next bs end
chained_from m next [] end e = cc
chained_from m next (b ∷ bs) end e =
    let on = went_on (module_end m next b) (λ n. modules_end (m + 1) n bs) end e in
    let here = module_from m next b on.0 on.1 in
    (here.0, subst (λ (n : ℕ). Chained n bs end) (sym here.1) (chained_from (m + 1) on.0 bs end on.2))

chained_to : (m next : ℕ) (bs : List (List ℕ)) (end : ℕ) → Chained next bs end → modules_end m next bs ≡ Ok end
chained_to m next [] end e = ap Ok e
chained_to m next (b ∷ bs) end (here, rest) =
    ap (λ (r : Verdict). go_on (go_on r (λ _. Ok (next + count_of (fields_of b)))) (λ n. modules_end (m + 1) n bs))
    (passes (head_wrong 24 2 b) _ _ here.head (passes (module_wrong (fields_of b)) _ _ here.fields
    (ap (λ (t : Bool). refuse_if t (card_fault WrongFirstRecord m)) (equal_to (first_of (fields_of b)) next here.first))))
    ∙ chained_to (m + 1) (next + count_of (fields_of b)) bs end rest

records_from : (start r : ℕ) (bs : List (List ℕ)) → records_verdict start r bs ≡ Ok tt → AllByRecursion RecordBlock bs
records_from start r [] e = tt
records_from start r (b ∷ bs) e =
    let both = both_passed (record_verdict (start + 18 * r) b) (records_verdict start (r + 1) bs) e in
    let one = passed (head_wrong 18 3 b) _ _ both.0 in
    (record { head = one.0; fields = passed_if (record_wrong (fields_of b)) _ one.1 }, records_from start (r + 1) bs both.1)

records_to : (start r : ℕ) (bs : List (List ℕ)) → AllByRecursion RecordBlock bs → records_verdict start r bs ≡ Ok tt
records_to start r [] e = refl
records_to start r (b ∷ bs) (here, rest) =
    both_pass (record_verdict (start + 18 * r) b) (records_verdict start (r + 1) bs)
    (passes (head_wrong 18 3 b) _ _ here.head (ap (λ (t : Bool). refuse_if t (card_fault FieldOutOfValues (start + 18 * r))) here.fields))
    (records_to start (r + 1) bs rest)

ok_from : (v : Verdict) → is_ok v ≡ true → v ≡ Ok tt
ok_from (Ok u) e = refl
ok_from (Err f) e = let z : ◌≡◌ {A = ℕ} 0 1 = cc in absurd (omega arith)

pub accepted_from : (bs : List ℕ) → is_card bs ≡ true → Accepted bs
accepted_from bs e =
    let both = both_passed (head_verdict bs) (blocks_verdict bs) (ok_from (card_verdict bs) e) in
    let a = passed (nat_lt (length bs) 16) _ _ both.0 in
    let b = passed (head_wrong 16 1 bs) _ _ a.1 in
    let c = passed (nat_lt 4096 (module_count bs)) _ _ b.1 in
    let d = passed (nat_lt 32768 (record_count bs)) _ _ c.1 in
    let s = passed_if (not (length bs == card_size bs)) _ d.1 in
    let on = went_on (modules_end 0 0 (module_blocks bs)) (λ end.
    and_then (records_verdict (records_start bs) 0 (record_blocks bs))
    (refuse_if (not (end == record_count bs)) (card_fault WrongFirstRecord (module_count bs)))) tt both.1 in
    let last = both_passed (records_verdict (records_start bs) 0 (record_blocks bs)) _ on.2 in
    let sum = equal_from on.0 (record_count bs) (passed_if (not (on.0 == record_count bs)) _ last.1) in
    record {
      head = b.0;
      few_modules = ltb-false 4096 (module_count bs) c.0;
      few_records = ltb-false 32768 (record_count bs) d.0;
      size = equal_from (length bs) (card_size bs) s;
      modules = chained_from 0 0 (module_blocks bs) (record_count bs) (on.1 ∙ ap Ok sum);
      records = records_from (records_start bs) 0 (record_blocks bs) last.0;
    }

pub accepted_to : (bs : List ℕ) → Accepted bs → card_verdict bs ≡ Ok tt
accepted_to bs a =
    both_pass (head_verdict bs) (blocks_verdict bs)
    (passes (nat_lt (length bs) 16) _ _ (le-ltb (length bs) 16 (omega (arith, a.size)))
    (passes (head_wrong 16 1 bs) _ _ a.head
    (passes (nat_lt 4096 (module_count bs)) _ _ (le-ltb 4096 (module_count bs) a.few_modules)
    (passes (nat_lt 32768 (record_count bs)) _ _ (le-ltb 32768 (record_count bs) a.few_records)
    (ap (λ (t : Bool). refuse_if t (card_fault WrongLength (length bs))) (equal_to (length bs) (card_size bs) a.size))))))
    (ap (λ (r : Result ℕ Fault). go_on r (λ end.
    and_then (records_verdict (records_start bs) 0 (record_blocks bs))
    (refuse_if (not (end == record_count bs)) (card_fault WrongFirstRecord (module_count bs)))))
    (chained_to 0 0 (module_blocks bs) (record_count bs) a.modules)
    ∙ both_pass (records_verdict (records_start bs) 0 (record_blocks bs)) _ (records_to (records_start bs) 0 (record_blocks bs) a.records)
    (ap (λ (t : Bool). refuse_if t (card_fault WrongFirstRecord (module_count bs))) (equal_to (record_count bs) (record_count bs) refl)))

-- what makes a meaning proper, of each module

abbrev pub Resolved : ImportRecord → Type 0
Resolved r = (t : ℕ) → r.target ≡ Some t → t < 2 ^ 32 - 1

abbrev pub Sound : Scanned → Type 0
Sound s = (s.described ≡ External → s.records ≡ []) × AllByRecursion Resolved s.records

at_any : {X : Type 0} (P : X → Type 0) (d : X) → P d → (xs : List X) → AllByRecursion P xs → (k : ℕ) → P (slice_index_or xs k d)
at_any P d p [] all k = p
at_any P d p (x ∷ xs) (here, rest) zero = here
at_any P d p (x ∷ xs) (here, rest) (suc k) = at_any P d p xs rest k

past_resolved : Resolved past_records
past_resolved t e = let z : ◌≡◌ {A = ℕ} 0 1 = cc in omega arith

pub proper_from : (w : Meaning) → AllByRecursion Sound w.modules → Proper w
proper_from w all = record {
  blank = λ m. (sound m).0;
  targets = λ m. at_any Resolved past_records past_resolved (scanned_at w m).records (sound m).1;
} where
  sound : (m : ℕ) → Sound (scanned_at w m)
  sound = at_any Sound past_modules (λ e. refl, tt) w.modules all

pub target_resolved : (n t : ℕ) (b : Bool) → nat_lt n 4294967295 ≡ b → cond b (Some n) None ≡ Some t → t < 2 ^ 32 - 1
target_resolved n t true e h = let same : n ≡ t = cc in omega (arith, ltb-true n 4294967295 e)
target_resolved n t false e h = let z : ◌≡◌ {A = ℕ} 0 1 = cc in omega arith

all_resolved : (bs : List (List ℕ)) → AllByRecursion Resolved (map block_record bs)
all_resolved [] = tt
all_resolved (b ∷ bs) = (λ t. target_resolved (u32_le (fields_of b) 2) t (nat_lt (u32_le (fields_of b) 2) 4294967295) refl, all_resolved bs)

external_is : (b : Bool) (n : NormalModule) → cond b External (Normal n) ≡ External → b ≡ true
external_is true n e = refl
external_is false n e = let z : ◌≡◌ {A = ℕ} 0 1 = cc in absurd (omega arith)

-- no field of a module is wrong, field by field
pub record Right (f : List ℕ) : Type 0 where
  pub class : class_wrong f ≡ false
  pub scanned : scanned_wrong f ≡ false
  pub flags : flags_wrong f ≡ false
  pub start : await_start_wrong f ≡ false
  pub end : await_end_wrong f ≡ false
  pub count : count_wrong f ≡ false

pub right_from : (f : List ℕ) → module_wrong f ≡ false → Right f
right_from f w =
    let a = or_parts (class_wrong f) _ w in
    let b = or_parts (scanned_wrong f) _ a.1 in
    let c = or_parts (flags_wrong f) _ b.1 in
    let d = or_parts (await_start_wrong f) _ c.1 in
    let e = or_parts (await_end_wrong f) _ d.1 in
    record { class = a.0; scanned = b.0; flags = c.0; start = d.0; end = e.0; count = e.1 }

-- a number that an external module must leave 0
pub blank_at : (f : List ℕ) (at : ℕ) → is_external f ≡ true → not_blank f at ≡ false → u32_le f at ≡ 0
blank_at f at e w = equal_from (u32_le f at) 0 (ap (λ (x : Bool). x && not (u32_le f at == 0)) (sym e) ∙ w)

pub blank_scanned : (rs : List ImportRecord) (b : List ℕ) → module_wrong (fields_of b) ≡ false → (block_scanned rs b).described ≡ External → (block_scanned rs b).records ≡ []
blank_scanned rs b w e =
    ap (λ (n : ℕ). take n (drop (first_of (fields_of b)) rs))
    (blank_at (fields_of b) 16 (external_is (is_external (fields_of b)) _ e) (right_from (fields_of b) w).count)

all_sound : (rs : List ImportRecord) → AllByRecursion Resolved rs → (next end : ℕ) (bs : List (List ℕ)) → Chained next bs end → AllByRecursion Sound (map (block_scanned rs) bs)
all_sound rs all next end [] h = tt
all_sound rs all next end (b ∷ bs) (here, rest) = (
  (blank_scanned rs b here.fields, All-take Resolved (count_of (fields_of b)) (drop (first_of (fields_of b)) rs) (All-drop Resolved (first_of (fields_of b)) rs all)),
  all_sound rs all (next + count_of (fields_of b)) end bs rest,
)

pub card_proper : (bs : List ℕ) → is_card bs ≡ true → Proper (card_meaning bs)
card_proper bs e =
    proper_from (card_meaning bs) (all_sound (map block_record (record_blocks bs)) (all_resolved (record_blocks bs)) 0 (record_count bs) (module_blocks bs) (accepted_from bs e).modules)
