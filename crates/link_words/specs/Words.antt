-- The words for formats, wrappers, passes, kinds and ranks, as their bytes.
--
--   format_word, wrap_word, pass_word   one word for each case
--   option_word, with_option   the word that turns an option on, and the options with it on
--   kind_word    a module's kind: `external`, or the word for its exports kind
--   first_word   a first rank, or `none`
use Rattle.std.specs.Prelude.{ℕ, true, List, Some, None, codes, decimal, Option}
use Rattle.source.specs.declared.ExportsKind.{ExportsKind}
use Rattle.source.specs.declared.Module.{Module}
use Rattle.source.specs.declared.Module.TheVariants.{External, Normal}
use Rattle.marks.specs.declared.options.LinkOptions.{LinkOptions}
use Rattle.marks.specs.declared.options.OutputFormat.{OutputFormat}
use Rattle.marks.specs.declared.options.OutputFormat.TheVariants as format
use Rattle.marks.specs.declared.rows.WrapKind.{WrapKind}
use Rattle.marks.specs.declared.rows.WrapKind.TheVariants as wrap
use Rattle.table_words.specs.Words.{exports_word}
use Rattle.link_words.specs.declared.asked.LinkSwitch.{LinkSwitch}
use Rattle.link_words.specs.declared.asked.LinkSwitch.TheVariants.{NoSplitting, StrictOrder, ManualGroups, ProfilerNames}
use Rattle.settled.specs.declared.calls.Pass.{Pass}
use Rattle.settled.specs.declared.calls.Pass.TheVariants.{Kinds, Star, Wrap, Await, Entries}

abbrev pub format_word : OutputFormat → List ℕ
format_word format.Esm = codes "esm"
format_word format.Cjs = codes "cjs"
format_word format.Iife = codes "iife"
format_word format.Umd = codes "umd"

abbrev pub wrap_word : WrapKind → List ℕ
wrap_word wrap.None = codes "none"
wrap_word wrap.Cjs = codes "cjs"
wrap_word wrap.Esm = codes "esm"

abbrev pub pass_word : Pass → List ℕ
pass_word Kinds = codes "kinds"
pass_word Star = codes "star"
pass_word Wrap = codes "wrap"
pass_word Await = codes "await"
pass_word Entries = codes "entries"

abbrev pub kind_word : Module → ExportsKind → List ℕ
kind_word External kind = codes "external"
kind_word (Normal n) kind = exports_word kind

abbrev pub first_word : Option ℕ → List ℕ
first_word (Some rank) = decimal rank
first_word None = codes "none"

abbrev pub option_word : LinkSwitch → List ℕ
option_word NoSplitting = codes "--no-splitting"
option_word StrictOrder = codes "--strict-order"
option_word ManualGroups = codes "--manual-groups"
option_word ProfilerNames = codes "--profiler-names"

abbrev pub with_option : LinkOptions → LinkSwitch → LinkOptions
with_option o NoSplitting = record { format = o.format; splitting_off = true; strict_order = o.strict_order; manual_groups = o.manual_groups; profiler_names = o.profiler_names }
with_option o StrictOrder = record { format = o.format; splitting_off = o.splitting_off; strict_order = true; manual_groups = o.manual_groups; profiler_names = o.profiler_names }
with_option o ManualGroups = record { format = o.format; splitting_off = o.splitting_off; strict_order = o.strict_order; manual_groups = true; profiler_names = o.profiler_names }
with_option o ProfilerNames = record { format = o.format; splitting_off = o.splitting_off; strict_order = o.strict_order; manual_groups = o.manual_groups; profiler_names = true }
