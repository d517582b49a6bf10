-- The parts of the star pass together do what it promises. Assumes nothing.
use Rattle.std.proofs.Common.{◌≡◌, ℕ, ◌<◌, ◌≤◌, Bool, true, ◌&&◌, ◌||◌, ◌⊎◌, ◌↔◌, List, length, sym, ap, ◌∙◌, inl, inr, arith}
use mathlib.Core.Bool.{false≢true}
use Rattle.std.proofs.lemmas.Bool.{and_parts, and_from, or_cases, or_left, or_right}
use Rattle.source.specs.Meaning.{Meaning, count_of}
use Rattle.marks.specs.declared.options.LinkOptions.{LinkOptions}
use Rattle.marks.specs.declared.rows.MarkRow.{MarkRow}
use Rattle.marks.specs.Passes.{StarDid, OpenExports}
use Rattle.marks.specs.Records.{Leads, here, along}
use Rattle.marks.specs.Records as records
use Rattle.marks.specs.Rules.{agrees, is_wrapped, read_wrap}
use Rattle.marks.specs.Rows.{row_at, kind_in, Written}
use Rattle.marks.proofs.Records.{leads_as}
use Rattle.marks.proofs.Writes.{read_agrees, read_again, raised_stays, raised_or}
use Rattle.spread.specs.declared.yes_no.YesNo.{YesNo}
use Rattle.spread.specs.Kinds.{plain_no, either}
use Rattle.ways.specs.declared.Way.TheVariants.{Stars as StarWay}
use Rattle.ways.specs.declared.targets.Pick.TheVariants.{Stars as StarPick}
use Rattle.ways.specs.Targets.{flag, Filled, Cleared, PointedAt}
use Rattle.ways.specs.Ways.{Targets, Carried}
use Rattle.ways.proofs.Steps.{stars_to, stars_from, carried_from, carried_to}
use Rattle.dynamic_exports.specs.Stars.{OpenAt, Starred, StarredRow}

-- the test by which a row is written
pub starred_test : {P : Type 0} (a b h : Bool) → (h ≡ true) ↔ P → ((a && (b || h)) ≡ true) ↔ ((a ≡ true) × ((b ≡ true) ⊎ P))
starred_test a b h t = (
  λ e. ((and_parts a (b || h) e).0, elim (or_cases b h (and_parts a (b || h) e).1) [ inl x ↦ inl x | inr y ↦ inr (t.0 y) ]),
  λ p. and_from a (b || h) p.0 (elim p.1 [ inl x ↦ or_left b h x | inr y ↦ or_right b h (t.1 y) ]),
)

module _ (w : Meaning) (rows new : List MarkRow) (starts facts empty starred lent : List YesNo)
    (enough : count_of w ≤ length starts) (targets : Targets w)
    (filled : Filled (count_of w) (OpenAt w rows) starts)
    (carried : Carried plain_no either StarWay w starts facts)
    (cleared : Cleared (count_of w) lent empty)
    (pointed : PointedAt StarPick w (flag facts) empty starred)
    (written : Written (count_of w) (StarredRow w facts starred) rows new) where
  -- where stars lead stays among the modules
  within : (m last : ℕ) → m < count_of w → Leads (records.Stars w) m last → last < count_of w
  within m last h here = h
  within m last h (along {a} {b} s l) = targets a b (s.0, s.1, s.3)

  is_target : (m : ℕ) → m < count_of w → (flag starred m ≡ true) ↔ ((i : ℕ) × records.Stars w i m)
  is_target m h = (
    λ e. elim ((pointed.raised m).only e) [
      | inl old ↦ absurd (false≢true (sym (cleared.clear m h) ∙ old))
      | inr p ↦ (p.0, (p.1, p.2.kind, p.2.by, p.2.points))
    ],
    λ s. (pointed.raised m).made (s.0, s.1.0, record { kind = s.1.1; points = s.1.3; by = s.1.2 }),
  )

  opens : (m : ℕ) → m < count_of w → Starred w facts starred m ↔ OpenExports w (kind_in rows) m
  opens m h = (
    λ s.
        let f = carried_from StarWay w starts facts carried m (omega arith) s.0 in
        let l = leads_as (stars_to w) f.1 in
        record {
          star = elim s.1 [ inl t ↦ inr ((is_target m h).0 t) | inr own ↦ inl own ];
          last = f.0;
          leads = l;
          open_end = (filled f.0 (within m f.0 h l)).0 f.2;
        },
    λ o. (
      carried_to StarWay w starts facts carried o.last m (omega arith) (leads_as (stars_from w) o.leads) ((filled o.last (within m o.last h o.leads)).1 o.open_end),
      elim o.star [ inl own ↦ inr own | inr t ↦ inl ((is_target m h).1 t) ],
    ),
  )

  pub star_did : (o : LinkOptions) → StarDid w o rows new
  star_did o = record {
    long = written.long;
    past = written.rest;
    rule = λ m h. ap (λ (r : MarkRow). agrees r.kind r.wrap) (written.each m h).row ∙ read_agrees (row_at rows m).kind (row_at rows m).wrap;
    kind = λ m h. ap (λ (r : MarkRow). r.kind) (written.each m h).row;
    wrap = λ m h. raised_stays (ap (λ (r : MarkRow). is_wrapped (read_wrap r.kind r.wrap)) (written.each m h).row ∙ ap is_wrapped (read_again (row_at rows m).kind (row_at rows m).wrap));
    required = λ m h. raised_stays (ap (λ (r : MarkRow). r.required) (written.each m h).row);
    dynamic = λ m h.
        raised_or (row_at rows m).dynamic (written.each m h).dynamic (row_at new m).dynamic (ap (λ (r : MarkRow). r.dynamic) (written.each m h).row)
        (λ e. (opens m h).0 ((written.each m h).when.0 e), λ p. (written.each m h).when.1 ((opens m h).1 p));
    awaiting = λ m h. raised_stays (ap (λ (r : MarkRow). r.awaiting) (written.each m h).row);
    entries = λ m h. ap (λ (r : MarkRow). r.entries) (written.each m h).row;
  }
