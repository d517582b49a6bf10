-- What a call does at a stage.
--
--   unsettled   nothing is settled
--   all_settled kinds, star, wrap and await are
--   after       the stage after an accepted call, or none where the call is not allowed: kinds and await settle, star and
--               wrap settle after kinds, finish closes once all four are settled, begin works at every stage
use Rattle.std.specs.Prelude.{Bool, true, false, cond, ◌&&◌, ◌||◌, Some, None, Option}
use Rattle.link.specs.declared.stage.Call.{Call}
use Rattle.link.specs.declared.stage.Call.TheVariants.{Begin, Kinds, Star, Wrap, Await, Entries, Finish}
use Rattle.link.specs.declared.stage.Settled.{Settled}
use Rattle.link.specs.declared.stage.Stage.{Stage}
use Rattle.link.specs.declared.stage.Stage.TheVariants.{Fresh, Open, Closed}

abbrev pub unsettled : Settled
unsettled = record { kinds = false; star = false; wrap = false; awaits = false }

abbrev pub all_settled : Settled → Bool
all_settled s = ((s.kinds && s.star) && s.wrap) && s.awaits

abbrev pub after : Stage → Call → Option Stage
after Fresh Begin = Some (Open unsettled)
after Fresh Kinds = None
after Fresh Star = None
after Fresh Wrap = None
after Fresh Await = None
after Fresh Entries = None
after Fresh Finish = None
after (Open s) Begin = Some (Open unsettled)
after (Open s) Kinds = Some (Open (record { kinds = true; star = s.star; wrap = s.wrap; awaits = s.awaits }))
after (Open s) Star = Some (Open (record { kinds = s.kinds; star = s.star || s.kinds; wrap = s.wrap; awaits = s.awaits }))
after (Open s) Wrap = Some (Open (record { kinds = s.kinds; star = s.star; wrap = s.wrap || s.kinds; awaits = s.awaits }))
after (Open s) Await = Some (Open (record { kinds = s.kinds; star = s.star; wrap = s.wrap; awaits = true }))
after (Open s) Entries = Some (Open s)
after (Open s) Finish = cond (all_settled s) (Some Closed) None
after Closed Begin = Some (Open unsettled)
after Closed Kinds = None
after Closed Star = None
after Closed Wrap = None
after Closed Await = None
after Closed Entries = None
after Closed Finish = None
