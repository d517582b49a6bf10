-- What records make of a module's kind, one by one. Assumes nothing.
use Rattle.std.proofs.Common.{◌≡◌, ℕ, ◌+◌, ◌<◌, ◌≤◌, Bool, true, false, cond, List, [], ◌∷◌, ◌++◌, length, get_or, take, sym, refl, ap, ◌∙◌}
use Rattle.std.proofs.lemmas.List.{take_more, take_all}
use Rattle.source.specs.declared.ImportRecord.{ImportRecord}
use Rattle.source.specs.declared.ExportsKind.{ExportsKind}
use Rattle.source.specs.declared.ExportsKind.TheVariants.{None as Unknown, Esm, CommonJs}
use Rattle.source.specs.declared.Module.{Module}
use Rattle.source.specs.declared.Module.TheVariants.{External, Normal}
use Rattle.source.specs.declared.NormalModule.{NormalModule}
use Rattle.source.specs.Meaning.{Meaning, Scanned, past_modules, past_records}
use Rattle.marks.specs.declared.options.LinkOptions.{LinkOptions}
use Rattle.marks.specs.Kinds.{or_else, makes, is_target, made_by, made_in, made_of, made_normal, records_scanned}

pub or_else_unknown : (kind : ExportsKind) → or_else kind Unknown ≡ kind
or_else_unknown Unknown = refl
or_else_unknown Esm = refl
or_else_unknown CommonJs = refl

pub or_else_assoc : (a b c : ExportsKind) → or_else (or_else a b) c ≡ or_else a (or_else b c)
or_else_assoc Unknown b c = refl
or_else_assoc Esm b c = refl
or_else_assoc CommonJs b c = refl

-- what is made of module x by a record, by records of one importer and by those of several, where x stands as d
abbrev pub by_record : LinkOptions → Module → ℕ → ImportRecord → ExportsKind
by_record o External x r = Unknown
by_record o (Normal n) x r = made_by o n x r

abbrev pub by_records : LinkOptions → Module → ℕ → List ImportRecord → ExportsKind
by_records o External x rs = Unknown
by_records o (Normal n) x rs = made_in o n x rs

abbrev pub by_modules : LinkOptions → Module → ℕ → List Scanned → ExportsKind
by_modules o External x ss = Unknown
by_modules o (Normal n) x ss = made_of o n x ss

module _ (o : LinkOptions) (n : NormalModule) (x : ℕ) where
  in_push : (rs : List ImportRecord) (r : ImportRecord) → made_in o n x (rs ++ r ∷ []) ≡ or_else (made_in o n x rs) (made_by o n x r)
  in_push [] r = or_else_unknown (made_by o n x r)
  in_push (s ∷ rs) r = ap (or_else (made_by o n x s)) (in_push rs r) ∙ sym (or_else_assoc (made_by o n x s) (made_in o n x rs) (made_by o n x r))

  abbrev made_at : Scanned → ExportsKind
  made_at s = made_in o n x (records_scanned s.described s.records)

  of_push : (ss : List Scanned) (s : Scanned) → made_of o n x (ss ++ s ∷ []) ≡ or_else (made_of o n x ss) (made_at s)
  of_push [] s = or_else_unknown (made_at s)
  of_push (t ∷ ss) s = ap (or_else (made_at t)) (of_push ss s) ∙ sym (or_else_assoc (made_at t) (made_of o n x ss) (made_at s))

module _ (o : LinkOptions) where
  pub records_none : (d : Module) (x : ℕ) → Unknown ≡ by_records o d x []
  records_none External x = refl
  records_none (Normal n) x = refl

  pub records_more : (d : Module) (x : ℕ) (rs : List ImportRecord) (k : ℕ) → k < length rs → or_else (by_records o d x (take k rs)) (by_record o d x (get_or rs k past_records)) ≡ by_records o d x (take (k + 1) rs)
  records_more External x rs k h = refl
  records_more (Normal n) x rs k h = sym (ap (made_in o n x) (take_more rs k past_records h) ∙ in_push o n x (take k rs) (get_or rs k past_records))

  pub modules_more : (d : Module) (x : ℕ) (ss : List Scanned) (m : ℕ) → m < length ss → or_else (by_modules o d x (take m ss)) (by_records o d x (records_scanned (get_or ss m past_modules).described (get_or ss m past_modules).records)) ≡ by_modules o d x (take (m + 1) ss)
  modules_more External x ss m h = refl
  modules_more (Normal n) x ss m h = sym (ap (made_of o n x) (take_more ss m past_modules h) ∙ of_push o n x (take m ss) (get_or ss m past_modules))

  pub modules_all : (w : Meaning) (d : Module) (x m : ℕ) → length w.modules ≤ m → by_modules o d x (take m w.modules) ≡ made_normal w o x d
  modules_all w External x m h = refl
  modules_all w (Normal n) x m h = ap (made_of o n x) (take_all m w.modules h)

  -- a record makes nothing of a module that it is not resolved to, nor of an external one
  pub by_other : (d : Module) (x : ℕ) (r : ImportRecord) → is_target r.target x ≡ false → Unknown ≡ by_record o d x r
  by_other External x r e = refl
  by_other (Normal n) x r e = sym (ap (λ (b : Bool). cond b (makes o n r.kind) Unknown) e)

  pub by_external : (d : Module) (x : ℕ) (r : ImportRecord) → d ≡ External → Unknown ≡ by_record o d x r
  by_external d x r e = sym (ap (λ (y : Module). by_record o y x r) e)

  pub by_target : (d : Module) (n : NormalModule) (x : ℕ) (r : ImportRecord) → d ≡ Normal n → is_target r.target x ≡ true → makes o n r.kind ≡ by_record o d x r
  by_target d n x r e f = sym (ap (λ (y : Module). by_record o y x r) e ∙ ap (λ (b : Bool). cond b (makes o n r.kind) Unknown) f)
