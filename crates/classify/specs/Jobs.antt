-- What classifying comes to.
--
--   Small     a classified source has no more rows than the limits allow
--   Settles   its marks and wrappers are those of the settled link
use Rattle.std.specs.Prelude.{ℕ, ◌≤◌, length, vec_items}
use Rattle.source.specs.Numbers.{module_limit, record_limit}
use Rattle.source.specs.Meaning.{Meaning}
use Rattle.marks.specs.declared.options.LinkOptions.{LinkOptions}
use Rattle.runs.specs.Ended.{Finished}
use Rattle.classify.specs.declared.job.Classified.{Classified}

pub record Small (c : Classified) : Type 0 where
  pub marks : length (vec_items c.marks) ≤ module_limit
  pub awaits : length (vec_items c.awaits) ≤ record_limit
  pub wrappers : length (vec_items c.wrappers) ≤ module_limit

abbrev pub Settles : Meaning → LinkOptions → Classified → Type 0
Settles w o c = (n : ℕ) × Finished w o (vec_items c.marks) (vec_items c.wrappers) n
