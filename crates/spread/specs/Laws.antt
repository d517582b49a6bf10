-- The laws of spreading, for every start and every arrow.
--
--   each       two rows of facts, joined place by place
--   Laws       the result is the only one; the spread of joined starts is the joined spreads; and a result spread again
--              stays as it is
use Rattle.std.specs.Prelude.{◌≡◌, List, [], ◌∷◌, length}
use Rattle.spread.specs.declared.arrow.Arrow.{Arrow}
use Rattle.spread.specs.Spread.{Spread}

abbrev pub each : {F : Type 0} → (F → F → F) → List F → List F → List F
each join [] ys = []
each join (x ∷ xs) [] = []
each join (x ∷ xs) (y ∷ ys) = join x y ∷ each join xs ys

pub record Laws {F : Type 0} (zero : F) (join : F → F → F) : Type 0 where
  pub only : (arrows : List Arrow) (s e f : List F) → Spread zero join arrows s e → Spread zero join arrows s f → e ≡ f
  pub joined : (arrows : List Arrow) (s t e f : List F) → length s ≡ length t → Spread zero join arrows s e → Spread zero join arrows t f → Spread zero join arrows (each join s t) (each join e f)
  pub again : (arrows : List Arrow) (s e : List F) → Spread zero join arrows s e → Spread zero join arrows e e
