-- Laws of a layer's meaning.
--
--   masked_length    as many modules as below
--   layered_at       a module of the layer: external where it is held, else as below
--   layered_held, layered_free   so every question about a module is answered as of an external one, or as below
--   layered_proper   the layer's meaning is proper where the meaning below is
use Rattle.std.specs.Prelude.{◌≡◌, ℕ, zero, suc, ◌+◌, ◌-◌, ◌^◌, ◌<◌, Bool, true, false, cond, List, [], ◌∷◌, length, get_or, Some, slice_index_or, refl}
use Rattle.std.proofs.Common.{sym, ap, subst, ◌∙◌, add-zero, arith}
use Rattle.source.specs.declared.Module.TheVariants.{External}
use Rattle.source.specs.Meaning.{Meaning, Scanned, Proper, past_modules, past_records, scanned_at}
use Rattle.external_layer.specs.Layers.{held_in, masked, layered}

pub masked_length : (hs : List ℕ) (i : ℕ) (ss : List Scanned) → length (masked hs i ss) ≡ length ss
masked_length hs i [] = refl
masked_length hs i (s ∷ ss) = ap suc (masked_length hs (suc i) ss)

cond_same : {A : Type 0} (b : Bool) (x : A) → x ≡ cond b x x
cond_same true x = refl
cond_same false x = refl

masked_at : (hs : List ℕ) (i : ℕ) (ss : List Scanned) (m : ℕ) → slice_index_or (masked hs i ss) m past_modules ≡ cond (held_in hs (i + m)) past_modules (slice_index_or ss m past_modules)
masked_at hs i [] m = cond_same (held_in hs (i + m)) past_modules
masked_at hs i (s ∷ ss) zero = ap (λ (j : ℕ). cond (held_in hs j) past_modules s) (sym (add-zero i))
masked_at hs i (s ∷ ss) (suc m) =
    let e : suc i + m ≡ i + suc m = omega arith in
    masked_at hs (suc i) ss m ∙ ap (λ (j : ℕ). cond (held_in hs j) past_modules (slice_index_or ss m past_modules)) e

pub layered_at : (hs : List ℕ) (w : Meaning) (m : ℕ) → scanned_at (layered hs w) m ≡ cond (held_in hs m) past_modules (scanned_at w m)
layered_at hs w m =
    let e : 0 + m ≡ m = omega arith in
    masked_at hs 0 w.modules m ∙ ap (λ (j : ℕ). cond (held_in hs j) past_modules (scanned_at w m)) e

-- whatever is asked of a module
module _ {A : Type 0} (ask : Scanned → A) (hs : List ℕ) (w : Meaning) (m : ℕ) where
  pub layered_held : true ≡ held_in hs m → ask past_modules ≡ ask (scanned_at (layered hs w) m)
  layered_held e = ap (λ (b : Bool). ask (cond b past_modules (scanned_at w m))) e ∙ ap ask (sym (layered_at hs w m))

  pub layered_free : false ≡ held_in hs m → ask (scanned_at w m) ≡ ask (scanned_at (layered hs w) m)
  layered_free e = ap (λ (b : Bool). ask (cond b past_modules (scanned_at w m))) e ∙ ap ask (sym (layered_at hs w m))

-- what each module must be for the meaning to be proper
abbrev Fine : Scanned → Type 0
Fine s = (s.described ≡ External → s.records ≡ []) × ((k t : ℕ) → (get_or s.records k past_records).target ≡ Some t → t < 2 ^ 32 - 1)

fine_past : Fine past_modules
fine_past = (λ e. refl, λ k t e. let z : ◌≡◌ {A = ℕ} 0 1 = cc in omega arith)

fine_cond : (b : Bool) (s : Scanned) → Fine s → Fine (cond b past_modules s)
fine_cond true s fine = fine_past
fine_cond false s fine = fine

pub layered_proper : (hs : List ℕ) (w : Meaning) → Proper w → Proper (layered hs w)
layered_proper hs w p = record {
  blank = λ m. (fine m).0;
  targets = λ m. (fine m).1;
} where
  fine : (m : ℕ) → Fine (scanned_at (layered hs w) m)
  fine m = subst Fine (sym (layered_at hs w m)) (fine_cond (held_in hs m) (scanned_at w m) (p.blank m, p.targets m))
