-- What a list of calls comes to.
--
--   Small     no more rows than the limits allow
--   Settles   where finish was accepted, the marks and wrappers are those of the settled link
--   FewRows, RowsSettle   the same of the rows alone
use Rattle.std.specs.Prelude.{◌≤◌, length, vec_items}
use Rattle.source.specs.Meaning.{Meaning}
use Rattle.source.specs.Numbers.{module_limit, record_limit}
use Rattle.marks.specs.declared.options.LinkOptions.{LinkOptions}
use Rattle.runs.specs.Ended.{EndsSettled}
use Rattle.run_list.specs.declared.lists.ListRun.{ListRun}
use Rattle.run_list.specs.declared.lists.Rows.{Rows}

pub record Small (c : ListRun) : Type 0 where
  pub marks : length (vec_items c.marks) ≤ module_limit
  pub awaits : length (vec_items c.awaits) ≤ record_limit
  pub wrappers : length (vec_items c.wrappers) ≤ module_limit

abbrev pub Settles : Meaning → LinkOptions → ListRun → Type 0
Settles w o c = EndsSettled c.finish w o (vec_items c.marks) (vec_items c.wrappers)

pub record FewRows (r : Rows) : Type 0 where
  pub marks : length (vec_items r.marks) ≤ module_limit
  pub awaits : length (vec_items r.awaits) ≤ record_limit
  pub wrappers : length (vec_items r.wrappers) ≤ module_limit

abbrev pub RowsSettle : Meaning → LinkOptions → Rows → Type 0
RowsSettle w o r = EndsSettled r.finish w o (vec_items r.marks) (vec_items r.wrappers)
