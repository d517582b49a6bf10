-- The numbers under which cases are known outside of the language.
--
--   wrap_number     of a wrapper's kind
--   helper_number   of the helper that makes a wrapper
--   layer_number    of the layer that found a fault; 0 says that there is none
--   status_number   of what a call came to
--   format_of, options_of   the format, and the options, that a number stands for; none for a number that has another bit
use Rattle.std.specs.Prelude.{ℕ, ◌/◌, ◌%◌, cond, Option, ◌==◌, nat_le}
use Rattle.std.specs.declared.option.Option.TheVariants as option
use Rattle.faults.specs.declared.Layer.{Layer}
use Rattle.faults.specs.declared.Layer.TheVariants.{Card, Source, Link, Interop}
use Rattle.marks.specs.declared.options.LinkOptions.{LinkOptions}
use Rattle.marks.specs.declared.options.OutputFormat.{OutputFormat}
use Rattle.marks.specs.declared.options.OutputFormat.TheVariants as format
use Rattle.marks.specs.declared.rows.Helper.{Helper}
use Rattle.marks.specs.declared.rows.Helper.TheVariants as helper
use Rattle.marks.specs.declared.rows.WrapKind.{WrapKind}
use Rattle.marks.specs.declared.rows.WrapKind.TheVariants.{None, Cjs, Esm}
use Rattle.tuchovai_c.specs.declared.numbers.Status.{Status}
use Rattle.tuchovai_c.specs.declared.numbers.Status.TheVariants.{Done, Refused, NoMemory, TableTooShort, UnknownOptions}

abbrev pub wrap_number : WrapKind → ℕ
wrap_number None = 0
wrap_number Cjs = 1
wrap_number Esm = 2

abbrev pub helper_number : Helper → ℕ
helper_number helper.CommonJs = 0
helper_number helper.CommonJsMin = 1
helper_number helper.Esm = 2
helper_number helper.EsmMin = 3

abbrev pub layer_number : Layer → ℕ
layer_number Card = 1
layer_number Source = 2
layer_number Link = 3
layer_number Interop = 4

abbrev pub status_number : Status → ℕ
status_number Done = 0
status_number Refused = 1
status_number NoMemory = 2
status_number TableTooShort = 3
status_number UnknownOptions = 4

abbrev pub format_of : ℕ → OutputFormat
format_of n = cond (n == 0) format.Esm (cond (n == 1) format.Cjs (cond (n == 2) format.Iife format.Umd))

abbrev pub options_in : ℕ → LinkOptions
options_in n = record {
  format = format_of (n % 4);
  splitting_off = (n / 4 % 2 == 1);
  strict_order = (n / 8 % 2 == 1);
  manual_groups = (n / 16 % 2 == 1);
  profiler_names = (n / 32 % 2 == 1);
}

abbrev pub options_of : ℕ → Option LinkOptions
options_of n = cond (nat_le 64 n) option.None (option.Some (options_in n))
