-- What a layer that holds module numbers makes of the source below it.
--
--   held_in       whether a number is among those held
--   masked        the modules from a number on, those held made external: blank, without records
--   layered       the meaning of the layer; a held number past the last module changes nothing
--   is_full       all 64 seats are taken
--   hold_after    the numbers held after one more is asked for: a held one takes no second seat
--   hold_answer   refused exactly where a number that is not held finds no seat
use Rattle.std.specs.Prelude.{ℕ, suc, Bool, cond, not, ◌&&◌, ◌||◌, List, [], ◌∷◌, ◌++◌, length, ◌==◌, nat_le}
use Rattle.std.specs.List.{list_any}
use Rattle.faults.specs.Faults.{Verdict, fault, refuse_if}
use Rattle.faults.specs.declared.Layer.TheVariants.{Source}
use Rattle.faults.specs.declared.Refusal.TheVariants.{LayerFull}
use Rattle.source.specs.Meaning.{Meaning, Scanned, past_modules}

abbrev pub held_in : List ℕ → ℕ → Bool
held_in hs m = list_any (λ (h : ℕ). h == m) hs

abbrev pub masked : List ℕ → ℕ → List Scanned → List Scanned
masked hs i [] = []
masked hs i (s ∷ ss) = cond (held_in hs i) past_modules s ∷ masked hs (suc i) ss

abbrev pub layered : List ℕ → Meaning → Meaning
layered hs w = record { runtime = w.runtime; modules = masked hs 0 w.modules }

abbrev pub is_full : List ℕ → Bool
is_full hs = nat_le 64 (length hs)

abbrev pub hold_after : List ℕ → ℕ → List ℕ
hold_after hs m = cond (held_in hs m || is_full hs) hs (hs ++ (m ∷ []))

abbrev pub hold_answer : List ℕ → ℕ → Verdict
hold_answer hs m = refuse_if (not (held_in hs m) && is_full hs) (fault LayerFull Source 0 0)
