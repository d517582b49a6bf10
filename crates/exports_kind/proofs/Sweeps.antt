-- The pass, record by record in scan order. Assumes nothing.
use Rattle.std.proofs.Common.{◌≡◌, ℕ, ◌+◌, ◌<◌, ◌≤◌, true, ◌⊎◌, ◌↔◌, List, [], length, take, set, Some, None, Option, sym, refl, ap, ◌∙◌, subst, inl, inr, arith}
use Rattle.std.proofs.lemmas.List.{take_all}
use Rattle.std.proofs.lemmas.Bool.{cases_eq, eq-eqb, ne_eqb}
use Rattle.source.specs.declared.ImportKind.{ImportKind}
use Rattle.source.specs.declared.ImportRecord.{ImportRecord}
use Rattle.source.specs.declared.ExportsKind.TheVariants.{None as Unknown}
use Rattle.source.specs.declared.Module.{Module}
use Rattle.source.specs.declared.Module.TheVariants.{External, Normal}
use Rattle.source.specs.declared.NormalModule.{NormalModule}
use Rattle.source.specs.Meaning.{Meaning, count_of, module_at, records_of, records_in, record_at, look_at}
use Rattle.marks.specs.declared.options.LinkOptions.{LinkOptions}
use Rattle.marks.specs.declared.rows.MarkRow.{MarkRow}
use Rattle.marks.specs.Records.{NormalAt, Points, acts_as_require}
use Rattle.marks.specs.Rules.{read_row}
use Rattle.marks.specs.Rows.{row_at, kind_in, wrapped_in, keeps_rule}
use Rattle.marks.specs.Kinds.{or_else, makes, is_target, records_scanned, first_made, ripe}
use Rattle.marks.specs.Passes.{KindsWraps, KindsDid}
use Rattle.marks.specs.Passes as passes
use Rattle.marks.proofs.Records.{none_some, some_is, external_normal, normal_below, points_in, kind_looked, target_looked, look_points, look_target, look_kind}
use Rattle.exports_kind.specs.Steps.{after_record, after_importer, ReadUpTo}
use Rattle.exports_kind.proofs.Rows.{row_wrapped, read_rule, read_wrapped, row_same, row_other, raised_nowhere}
use Rattle.exports_kind.proofs.Scans.{Before, Only, Seen, none_only, only_more, before_more}
use Rattle.exports_kind.proofs.Makes.{by_record, by_records, by_modules, records_none, records_more, modules_more, modules_all, by_other, by_external, by_target, or_else_unknown}
use Rattle.exports_kind.proofs.Turns.{Ruled, Turned, with_mark, turned_none, turned_as, turned_on, turned_by_record, turned_by_importer, importer_ruled}

-- record j of module a requires the normal module x
abbrev pub Requiring : Meaning → LinkOptions → ℕ → ℕ → ℕ → Type 0
Requiring w o x a j = (kind : ImportKind) × (acts_as_require o kind ≡ true) × Points w a j kind x × NormalAt w x

-- the first k records of module m are done, from where its records began
pub record Inner (w : Meaning) (o : LinkOptions) (m k : ℕ) (start cur : List MarkRow) : Type 0 where
  pub each : (x : ℕ) → Turned o (module_at w x) (by_records o (module_at w x) x (take k (records_of w m))) (Seen (Only m k) (Requiring w o x)) (row_at start x) (row_at cur x)
  pub past : (x : ℕ) → count_of w ≤ x → row_at cur x ≡ row_at start x

-- the modules before m are done, with the importer rule
pub record Outer (w : Meaning) (o : LinkOptions) (m : ℕ) (start cur : List MarkRow) : Type 0 where
  pub each : (x : ℕ) → Turned o (module_at w x) (by_modules o (module_at w x) x (take m w.modules)) (Seen (Before m) (Requiring w o x)) (row_at start x) (row_at cur x)
  pub ruled : (x : ℕ) → x < m → Ruled o (module_at w x) (kind_in cur x) → row_wrapped (row_at cur x) ≡ true
  pub past : (x : ℕ) → count_of w ≤ x → row_at cur x ≡ row_at start x

module _ (w : Meaning) (o : LinkOptions) where
  -- one more record of module m
  module _ (m k : ℕ) (start cur : List MarkRow) (inside : k < records_in w m) (i : Inner w o m k start cur) where
    -- what record k of module m does to the row of module x
    abbrev Once : ℕ → MarkRow → MarkRow → Type 0
    Once x old new = Turned o (module_at w x) (by_record o (module_at w x) x (record_at w m k)) (Requiring w o x m k) old new

    inner_step : (new : List MarkRow) → ((x : ℕ) → Once x (row_at cur x) (row_at new x)) → ((x : ℕ) → count_of w ≤ x → row_at new x ≡ row_at cur x) → Inner w o m (k + 1) start new
    inner_step new step past = record {
      each = λ x. turned_as (records_more o (module_at w x) x (records_of w m) k inside) (only_more (Requiring w o x) m k) (turned_on (i.each x) (step x));
      past = λ x ge. past x ge ∙ i.past x ge;
    }

    untouched : (x : ℕ) → Unknown ≡ by_record o (module_at w x) x (record_at w m k) → (Requiring w o x m k → ⊥) → Once x (row_at cur x) (row_at cur x)
    untouched x e nor = turned_as e ((λ r. r), (λ r. r)) (turned_none nor)

    module _ (l : ImportKind × Option ℕ) (looked : l ≡ look_at w m k) where
      pub inner_unresolved : l.1 ≡ None → Inner w o m (k + 1) start cur
      inner_unresolved none = inner_step cur (λ x. untouched x (nothing x) (λ r. none_some x (sym none ∙ look_target w m k l looked x r.0 r.2))) (λ x ge. refl)
        where
          nothing : (x : ℕ) → Unknown ≡ by_record o (module_at w x) x (record_at w m k)
          nothing x = by_other o (module_at w x) x (record_at w m k) (ap (λ (t : Option ℕ). is_target t x) (sym (target_looked w m k l looked) ∙ none))

      module _ (t : ℕ) (is : l.1 ≡ Some t) where
        target_is : (record_at w m k).target ≡ Some t
        target_is = sym (target_looked w m k l looked) ∙ is

        other : (x : ℕ) → (x ≡ t → ⊥) → Once x (row_at cur x) (row_at cur x)
        other x ne = untouched x
            (by_other o (module_at w x) x (record_at w m k) (ap (λ (y : Option ℕ). is_target y x) target_is ∙ ne_eqb t x (λ q. ne (sym q))))
            (λ r. ne (some_is l.1 x t (look_target w m k l looked x r.0 r.2) is))

        pub inner_external : module_at w t ≡ External → Inner w o m (k + 1) start cur
        inner_external external = inner_step cur step (λ x ge. refl)
          where
            step : (x : ℕ) → Once x (row_at cur x) (row_at cur x)
            step x = elim (cases_eq x t) [
              | inl e ↦
                  let here : module_at w x ≡ External = ap (module_at w) e ∙ external in
                  untouched x (by_external o (module_at w x) x (record_at w m k) here) (λ r. external_normal r.3.0 (sym here ∙ r.3.1))
              | inr ne ↦ other x ne
            ]

        pub inner_normal : (n : NormalModule) (row : MarkRow) → module_at w t ≡ Normal n → NormalAt w m → t < length cur → row ≡ after_record o n l.0 (read_row (row_at cur t)) → Inner w o m (k + 1) start (set cur t row)
        inner_normal n row normal importer in_cur row_is = inner_step (set cur t row) step (λ x ge. row_other cur t x row (λ e. omega (arith, normal_below w t (n, normal))))
          where
            makes_is : makes o n l.0 ≡ by_record o (module_at w t) t (record_at w m k)
            makes_is = ap (makes o n) (kind_looked w m k l looked) ∙ by_target o (module_at w t) n t (record_at w m k) normal (ap (λ (y : Option ℕ). is_target y t) target_is ∙ eq-eqb t t refl)

            requires_is : (acts_as_require o l.0 ≡ true) ↔ Requiring w o t m k
            requires_is = ((λ acts. (l.0, acts, look_points w m k l looked t importer is, (n, normal))), (λ r. ap (acts_as_require o) (look_kind w m k l looked t r.0 r.2) ∙ r.1))

            step : (x : ℕ) → Once x (row_at cur x) (row_at (set cur t row) x)
            step x = elim (cases_eq x t) [
              | inl e ↦ subst (λ (y : ℕ). Once y (row_at cur y) (row_at (set cur t row) y)) (sym e) (subst (Once t (row_at cur t)) (sym (row_same cur t row in_cur ∙ row_is)) (turned_as makes_is requires_is (turned_by_record n l.0 (row_at cur t))))
              | inr ne ↦ subst (Once x (row_at cur x)) (sym (row_other cur t x row ne)) (other x ne)
            ]

  -- what the records of module m add to those of the modules before it
  kinds_more : (m x : ℕ) (rs : List ImportRecord) → m < count_of w → rs ≡ records_scanned (module_at w m) (records_of w m) → or_else (by_modules o (module_at w x) x (take m w.modules)) (by_records o (module_at w x) x rs) ≡ by_modules o (module_at w x) x (take (m + 1) w.modules)
  kinds_more m x rs h e = ap (λ (y : List ImportRecord). or_else (by_modules o (module_at w x) x (take m w.modules)) (by_records o (module_at w x) x y)) e ∙ modules_more o (module_at w x) x w.modules m h

  -- an external module has no records to look at
  pub outer_skip : (m : ℕ) (start cur : List MarkRow) → m < count_of w → module_at w m ≡ External → Outer w o m start cur → Outer w o (m + 1) start cur
  outer_skip m start cur h external u = record {
    each = λ x. turned_as (kinds_are x) (befores x) (u.each x);
    ruled = λ x lt r. elim (cases_eq x m) [
      | inl e ↦ absurd (external_normal r.n (sym external ∙ ap (module_at w) (sym e) ∙ r.normal))
      | inr ne ↦ u.ruled x (omega arith) r
    ];
    past = u.past;
  }
    where
      kinds_are : (x : ℕ) → by_modules o (module_at w x) x (take m w.modules) ≡ by_modules o (module_at w x) x (take (m + 1) w.modules)
      kinds_are x = sym (or_else_unknown _) ∙ ap (or_else (by_modules o (module_at w x) x (take m w.modules))) (records_none o (module_at w x) x) ∙ kinds_more m x [] h (ap (λ (d : Module). records_scanned d (records_of w m)) (sym external))

      none_at : (x j : ℕ) → 0 ≤ j → Requiring w o x m j → ⊥
      none_at x j ge r = external_normal r.2.importer.0 (sym external ∙ r.2.importer.1)

      befores : (x : ℕ) → Seen (Before m) (Requiring w o x) ↔ Seen (Before (m + 1)) (Requiring w o x)
      befores x =
          let more = before_more (Requiring w o x) m 0 (none_at x) in
          ((λ s. more.0 (inl s)), (λ s. elim (more.1 s) [ inl before ↦ before | inr here ↦ absurd (none_only (Requiring w o x) m here) ]))

  -- a normal module's records are done, and then the importer rule
  module _ (m k : ℕ) (n : NormalModule) (start mid cur : List MarkRow) (row : MarkRow) (h : m < count_of w) (in_cur : m < length cur) (is : module_at w m ≡ Normal n) (all : records_in w m ≤ k) (row_is : row ≡ after_importer o n (read_row (row_at cur m))) (u : Outer w o m start mid) (i : Inner w o m k mid cur) where
    at_m : row_at (set cur m row) m ≡ after_importer o n (read_row (row_at cur m))
    at_m = row_same cur m row in_cur ∙ row_is

    abbrev Closed : ℕ → MarkRow → MarkRow → Type 0
    Closed x old new = Turned o (module_at w x) Unknown ⊥ old new

    closing : (x : ℕ) → Closed x (row_at cur x) (row_at (set cur m row) x)
    closing x = elim (cases_eq x m) [
      | inl e ↦ subst (λ (y : ℕ). Closed y (row_at cur y) (row_at (set cur m row) y)) (sym e) (subst (Closed m (row_at cur m)) (sym at_m) (turned_by_importer o (module_at w m) n is (row_at cur m)))
      | inr ne ↦ subst (Closed x (row_at cur x)) (sym (row_other cur m x row ne)) (turned_none (λ z. z))
    ]

    kinds_are : (x : ℕ) → or_else (or_else (by_modules o (module_at w x) x (take m w.modules)) (by_records o (module_at w x) x (take k (records_of w m)))) Unknown ≡ by_modules o (module_at w x) x (take (m + 1) w.modules)
    kinds_are x = or_else_unknown _ ∙ kinds_more m x (take k (records_of w m)) h (take_all k (records_of w m) all ∙ ap (λ (d : Module). records_scanned d (records_of w m)) (sym is))

    beyond : (x j : ℕ) → k ≤ j → Requiring w o x m j → ⊥
    beyond x j ge r = omega (arith, points_in w m j x r.0 r.2)

    befores : (x : ℕ) → ((Seen (Before m) (Requiring w o x) ⊎ Seen (Only m k) (Requiring w o x)) ⊎ ⊥) ↔ Seen (Before (m + 1)) (Requiring w o x)
    befores x =
        let more = before_more (Requiring w o x) m k (beyond x) in
        ((λ s. elim s [ inl seen ↦ more.0 seen | inr z ↦ absurd z ]), (λ s. inl (more.1 s)))

    -- the records of m turn no earlier module CommonJS without wrapping it
    earlier : (x : ℕ) → x < m → Ruled o (module_at w x) (kind_in cur x) → row_wrapped (row_at cur x) ≡ true
    earlier x lt r = elim ((i.each x).turned r.common) [
      | inl common ↦ (i.each x).kept (u.ruled x lt (record { n = r.n; normal = r.normal; common = common; wraps = r.wraps }))
      | inr wrapped ↦ wrapped
    ]

    abbrev RuledIsWrapped : ℕ → MarkRow → Type 0
    RuledIsWrapped x r = Ruled o (module_at w x) r.kind → row_wrapped r ≡ true

    ruled : (x : ℕ) → x < m + 1 → RuledIsWrapped x (row_at (set cur m row) x)
    ruled x lt = elim (cases_eq x m) [
      | inl e ↦ subst (λ (y : ℕ). RuledIsWrapped y (row_at (set cur m row) y)) (sym e) (subst (RuledIsWrapped m) (sym at_m) (importer_ruled o (module_at w m) n is (row_at cur m)))
      | inr ne ↦ subst (RuledIsWrapped x) (sym (row_other cur m x row ne)) (earlier x (omega arith))
    ]

    pub outer_more : Outer w o (m + 1) start (set cur m row)
    outer_more = record {
      each = λ x. turned_as (kinds_are x) (befores x) (turned_on (turned_on (u.each x) (i.each x)) (closing x));
      ruled = ruled;
      past = λ x ge. row_other cur m x row (λ e. omega arith) ∙ i.past x ge ∙ u.past x ge;
    }

  -- all modules are done, from rows written as they read
  module _ (m : ℕ) (old start new : List MarkRow) (all : count_of w ≤ m) (long : length new ≡ length start) (r : ReadUpTo (count_of w) old start) (u : Outer w o m start new) where
    kind_is : (x : ℕ) → x < count_of w → kind_in new x ≡ ripe w o x (kind_in old x)
    kind_is x h = (u.each x).kind ∙ ap (or_else (kind_in start x)) (modules_all o w (module_at w x) x m all) ∙ ap (λ (t : MarkRow). or_else t.kind (first_made w o x)) (r.each x h)

    same_wrap : (x : ℕ) → x < count_of w → row_wrapped (row_at start x) ≡ wrapped_in old x
    same_wrap x h = ap row_wrapped (r.each x h) ∙ read_wrapped (row_at old x)

    wraps : (x : ℕ) → x < count_of w → KindsWraps w o (λ y. ripe w o y (kind_in old y)) x → wrapped_in new x ≡ true
    wraps x h (passes.required n {i} c) = (u.each x).made (i, c.0, (let lt = normal_below w i c.3.importer in omega arith), (c.1, c.2, c.3, n))
    wraps x h (passes.importer n e c q) = u.ruled x (omega arith) (record { n = n; normal = e; common = kind_is x h ∙ c; wraps = q })

    rest : (x : ℕ) → x < count_of w → row_at new x ≡ with_mark (row_at old x) (kind_in new x) (row_at new x).wrap
    rest x h = (u.each x).rest ∙ ap (λ (t : MarkRow). with_mark t (kind_in new x) (row_at new x).wrap) (r.each x h)

    pub whole : KindsDid w o old new
    whole = record {
      long = long ∙ r.long;
      past = λ x h. u.past x h ∙ r.rest x h;
      rule = λ x h. (u.each x).rule (subst keeps_rule (sym (r.each x h)) (read_rule (row_at old x)));
      kind = kind_is;
      wrap = λ x h. record {
        kept = λ e. (u.each x).kept (same_wrap x h ∙ e);
        made = wraps x h;
        only = λ e. elim ((u.each x).only e) [
          | inl y ↦ inl (sym (same_wrap x h) ∙ y)
          | inr y ↦ elim y [
            | inl s ↦ inr (passes.required s.3.3 {i = s.0} (s.1, s.3.0, s.3.1, s.3.2))
            | inr q ↦ inr (passes.importer q.n q.normal (sym (kind_is x h) ∙ q.common) q.wraps)
          ]
        ];
      };
      required = λ x h. raised_nowhere (ap (λ (t : MarkRow). t.required) (rest x h));
      dynamic = λ x h. raised_nowhere (ap (λ (t : MarkRow). t.dynamic) (rest x h));
      awaiting = λ x h. raised_nowhere (ap (λ (t : MarkRow). t.awaiting) (rest x h));
      entries = λ x h. ap (λ (t : MarkRow). t.entries) (rest x h);
    }
