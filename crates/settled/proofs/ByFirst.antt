-- The settled kind is what the first counting record makes. Assumes nothing.
use Rattle.std.proofs.Common.{◌≡◌, ℕ, zero, suc, ◌<◌, Bool, true, false, cond, ◌⊎◌, List, [], ◌∷◌, get_or, Option, sym, refl, ap, ◌∙◌, subst, inl, inr, arith}
use Rattle.std.proofs.lemmas.Bool.{cases_lt, eq-eqb}
use Rattle.source.specs.declared.ImportKind.{ImportKind}
use Rattle.source.specs.declared.ImportRecord.{ImportRecord}
use Rattle.source.specs.declared.ExportsKind.{ExportsKind}
use Rattle.source.specs.declared.ExportsKind.TheVariants.{None as Unknown, Esm, CommonJs}
use Rattle.source.specs.declared.Module.{Module}
use Rattle.source.specs.declared.Module.TheVariants.{External, Normal}
use Rattle.source.specs.declared.NormalModule.{NormalModule}
use Rattle.source.specs.Meaning.{Meaning, Scanned, module_at, record_at, scanned_at, past_modules, past_records}
use Rattle.marks.specs.declared.options.LinkOptions.{LinkOptions}
use Rattle.marks.specs.Records.{NormalAt, Points, ActsRequiring}
use Rattle.marks.proofs.Makes.{unknown_common, makes_common, target_is}
use Rattle.marks.specs.Kinds.{or_else, makes, is_target, made_by, made_in, made_of, made_normal, first_made, records_scanned, kind_scanned, settled_kind}
use Rattle.settled.specs.First.{First, KindByFirst}

known_or : (k : ExportsKind) → (k ≡ Unknown) ⊎ (k ≡ Unknown → ⊥)
known_or Unknown = inl refl
known_or Esm = inr (λ e. let z : ◌≡◌ {A = ℕ} 0 1 = cc in omega arith)
known_or CommonJs = inr (λ e. let z : ◌≡◌ {A = ℕ} 0 1 = cc in omega arith)

or_else_known : (a b : ExportsKind) → (a ≡ Unknown → ⊥) → or_else a b ≡ a
or_else_known Unknown b n = absurd (n refl)
or_else_known Esm b n = refl
or_else_known CommonJs b n = refl

-- a list is searched by a test f: nothing is known of it, or the first known thing is at k
record Found {X : Type 0} (f : X → ExportsKind) (xs : List X) (d : X) (all : ExportsKind) : Type 0 where
  place : ℕ
  known : f (get_or xs place d) ≡ Unknown → ⊥
  is : all ≡ f (get_or xs place d)
  before : (j : ℕ) → j < place → f (get_or xs j d) ≡ Unknown

abbrev firsts : {X : Type 0} → (X → ExportsKind) → List X → ExportsKind
firsts f [] = Unknown
firsts f (x ∷ xs) = or_else (f x) (firsts f xs)

search_firsts : {X : Type 0} (f : X → ExportsKind) (d : X) → f d ≡ Unknown → (xs : List X) → (((j : ℕ) → f (get_or xs j d) ≡ Unknown) × (firsts f xs ≡ Unknown)) ⊎ Found f xs d (firsts f xs)
search_firsts f d e [] = inl ((λ j. e), refl)
search_firsts f d e (x ∷ xs) = elim (known_or (f x)) [
  | inl u ↦ elim (search_firsts f d e xs) [
    | inl n ↦ inl (all_unknown u n.0, ap (λ (k : ExportsKind). or_else k (firsts f xs)) u ∙ n.1)
    | inr g ↦ inr (record { place = suc g.place; known = g.known; is = ap (λ (k : ExportsKind). or_else k (firsts f xs)) u ∙ g.is; before = earlier u g.place g.before })
  ]
  | inr n ↦ inr (record { place = 0; known = n; is = or_else_known (f x) (firsts f xs) n; before = λ j lt. absurd (omega arith) })
]
  where
    all_unknown : f x ≡ Unknown → ((j : ℕ) → f (get_or xs j d) ≡ Unknown) → (j : ℕ) → f (get_or (x ∷ xs) j d) ≡ Unknown
    all_unknown u n zero = u
    all_unknown u n (suc j) = n j

    earlier : f x ≡ Unknown → (p : ℕ) → ((j : ℕ) → j < p → f (get_or xs j d) ≡ Unknown) → (j : ℕ) → j < suc p → f (get_or (x ∷ xs) j d) ≡ Unknown
    earlier u p b zero lt = u
    earlier u p b (suc j) lt = b j (omega arith)

in_is : (o : LinkOptions) (n : NormalModule) (t : ℕ) (rs : List ImportRecord) → made_in o n t rs ≡ firsts (made_by o n t) rs
in_is o n t [] = refl
in_is o n t (r ∷ rs) = ap (or_else (made_by o n t r)) (in_is o n t rs)

abbrev made_scanned : LinkOptions → NormalModule → ℕ → Scanned → ExportsKind
made_scanned o n t s = made_in o n t (records_scanned s.described s.records)

of_is : (o : LinkOptions) (n : NormalModule) (t : ℕ) (ss : List Scanned) → made_of o n t ss ≡ firsts (made_scanned o n t) ss
of_is o n t [] = refl
of_is o n t (s ∷ ss) = ap (or_else (made_scanned o n t s)) (of_is o n t ss)

-- what a record that points to t makes of it
points_makes : (w : Meaning) (o : LinkOptions) (n : NormalModule) (t m k : ℕ) (kind : ImportKind) → Points w m k kind t → made_by o n t (record_at w m k) ≡ makes o n kind
points_makes w o n t m k kind p = ap (λ (x : Option ℕ). cond (is_target x t) (makes o n (record_at w m k).kind) Unknown) p.to ∙ ap (λ (b : Bool). cond b (makes o n (record_at w m k).kind) Unknown) (eq-eqb t t refl) ∙ ap (makes o n) p.by

cond_known : (b : Bool) (x : ExportsKind) → (cond b x Unknown ≡ Unknown → ⊥) → b ≡ true
cond_known true x n = refl
cond_known false x n = absurd (n refl)

makes_points : (w : Meaning) (o : LinkOptions) (n : NormalModule) (t m k : ℕ) → NormalAt w m → (made_by o n t (record_at w m k) ≡ Unknown → ⊥) → Points w m k (record_at w m k).kind t
makes_points w o n t m k normal known = record { importer = normal; by = refl; to = target_is (record_at w m k).target t (cond_known (is_target (record_at w m k).target t) (makes o n (record_at w m k).kind) known) }

-- the scanned records of a normal module are its records, and an external one has none
scanned_normal : (o : LinkOptions) (n : NormalModule) (t : ℕ) (d : Module) (rs : List ImportRecord) → (x : NormalModule) → d ≡ Normal x → made_in o n t (records_scanned d rs) ≡ firsts (made_by o n t) rs
scanned_normal o n t d rs x e = ap (λ (y : Module). made_in o n t (records_scanned y rs)) e ∙ in_is o n t rs

scanned_known : (o : LinkOptions) (n : NormalModule) (t : ℕ) (d : Module) (rs : List ImportRecord) → (made_in o n t (records_scanned d rs) ≡ Unknown → ⊥) → (x : NormalModule) × (d ≡ Normal x)
scanned_known o n t External rs e = absurd (e refl)
scanned_known o n t (Normal x) rs e = (x, refl)

module _ (w : Meaning) (o : LinkOptions) (n : NormalModule) (t : ℕ) where
  -- a module that makes nothing has no counting record
  module_unknown : (m : ℕ) → made_scanned o n t (scanned_at w m) ≡ Unknown → (k : ℕ) (kind : ImportKind) → Points w m k kind t → makes o n kind ≡ Unknown
  module_unknown m e k kind p = elim (search_firsts (made_by o n t) past_records refl (scanned_at w m).records) [
    | inl u ↦ sym (points_makes w o n t m k kind p) ∙ u.0 k
    | inr f ↦ absurd (f.known (sym f.is ∙ sym (scanned_normal o n t (module_at w m) (scanned_at w m).records p.importer.0 p.importer.1) ∙ e))
  ]

  decided : (((m k : ℕ) (kind : ImportKind) → Points w m k kind t → makes o n kind ≡ Unknown) × (made_of o n t w.modules ≡ Unknown)) ⊎ ((m : ℕ) × (k : ℕ) × (kind : ImportKind) × First w o n t m k kind × (made_of o n t w.modules ≡ makes o n kind))
  decided = elim (search_firsts (made_scanned o n t) past_modules refl w.modules) [
    | inl u ↦ inl ((λ m k kind p. module_unknown m (u.0 m) k kind p), of_is o n t w.modules ∙ u.1)
    | inr f ↦ inr (at_module f)
  ]
    where
      at_module : Found (made_scanned o n t) w.modules past_modules (firsts (made_scanned o n t) w.modules) → (m : ℕ) × (k : ℕ) × (kind : ImportKind) × First w o n t m k kind × (made_of o n t w.modules ≡ makes o n kind)
      at_module f = elim (search_firsts (made_by o n t) past_records refl (scanned_at w f.place).records) [
        | inl u ↦ absurd (f.known (same ∙ u.1))
        | inr g ↦ let p = makes_points w o n t f.place g.place normal g.known in (
          f.place,
          g.place,
          (record_at w f.place g.place).kind,
          record { points = p; counts = λ e. g.known (points_makes w o n t f.place g.place _ p ∙ e); none_earlier = λ a j other e q. elim e [ inl lt ↦ module_unknown a (f.before a lt) j other q | inr x ↦ sym (points_makes w o n t f.place j other (subst (λ (y : ℕ). Points w y j other t) x.0 q)) ∙ g.before j x.1 ] },
          of_is o n t w.modules ∙ f.is ∙ same ∙ g.is ∙ points_makes w o n t f.place g.place _ p,
        )
      ]
        where
          normal : NormalAt w f.place
          normal = scanned_known o n t (module_at w f.place) (scanned_at w f.place).records f.known

          same : made_scanned o n t (scanned_at w f.place) ≡ firsts (made_by o n t) (scanned_at w f.place).records
          same = scanned_normal o n t (module_at w f.place) (scanned_at w f.place).records normal.0 normal.1

  -- there is one first
  one_first : (m k a j : ℕ) (kind other : ImportKind) → First w o n t m k kind → First w o n t a j other → makes o n other ≡ makes o n kind
  one_first m k a j kind other f g = elim (cases_lt m a) [
    | inl lt ↦ absurd (f.counts (g.none_earlier m k kind (inl lt) f.points))
    | inr ge ↦ elim (cases_lt a m) [
      | inl lt ↦ absurd (g.counts (f.none_earlier a j other (inl lt) g.points))
      | inr le ↦ in_module (omega arith)
    ]
  ]
    where
      in_module : a ≡ m → makes o n other ≡ makes o n kind
      in_module e = elim (cases_lt k j) [
        | inl lt ↦ absurd (f.counts (g.none_earlier m k kind (inr (sym e, lt)) f.points))
        | inr ge ↦ elim (cases_lt j k) [
          | inl lt ↦ absurd (g.counts (f.none_earlier a j other (inr (e, lt)) g.points))
          | inr le ↦ let s : j ≡ k = omega arith in ap (makes o n) (sym g.points.by ∙ ap (λ (x : ℕ). (record_at w x j).kind) e ∙ ap (λ (x : ℕ). (record_at w m x).kind) s ∙ f.points.by)
        ]
      ]

settled_is : (w : Meaning) (o : LinkOptions) (t : ℕ) (n : NormalModule) → module_at w t ≡ Normal n → settled_kind w o t ≡ or_else n.scanned (made_of o n t w.modules)
settled_is w o t n e = ap (λ (d : Module). or_else (kind_scanned d) (made_normal w o t d)) e

pub kind_by_first : KindByFirst
kind_by_first = record {
  external = λ w o t e. ap (λ (d : Module). or_else (kind_scanned d) (made_normal w o t d)) e;
  known = λ w o t n e k. settled_is w o t n e ∙ or_else_known n.scanned _ k;
  made = λ w o t n e u m k kind f. settled_is w o t n e ∙ ap (λ (x : ExportsKind). or_else x (made_of o n t w.modules)) u ∙ elim (decided w o n t) [
    | inl x ↦ absurd (f.counts (x.0 m k kind f.points))
    | inr x ↦ x.4 ∙ one_first w o n t m k x.0 x.1 kind x.2 f x.3
  ];
  unmade = λ w o t n e u none. settled_is w o t n e ∙ ap (λ (x : ExportsKind). or_else x (made_of o n t w.modules)) u ∙ elim (decided w o n t) [
    | inl x ↦ x.1
    | inr x ↦ absurd (x.3.counts (none x.0 x.1 x.2 x.3.points))
  ];
}

-- a module that the records make CommonJS is required
made_requires : (w : Meaning) (o : LinkOptions) (t : ℕ) (d : Module) → made_normal w o t d ≡ CommonJs → (i : ℕ) × ActsRequiring w o i t
made_requires w o t External e = absurd (unknown_common e)
made_requires w o t (Normal n) e = elim (decided w o n t) [
  | inl x ↦ absurd (unknown_common (sym x.1 ∙ e))
  | inr x ↦ (x.0, (x.1, x.2, makes_common o n x.2 (sym x.4 ∙ e), x.3.points))
]

pub made_common : (w : Meaning) (o : LinkOptions) (t : ℕ) → first_made w o t ≡ CommonJs → (i : ℕ) × ActsRequiring w o i t
made_common w o t e = made_requires w o t (module_at w t) e
