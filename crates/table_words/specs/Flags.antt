-- What a flag's word says of a module.
--
--   flag_of     whether the module has the flag
--   with_flag   the module with the flag
use Rattle.std.specs.Prelude.{Bool, true}
use Rattle.source.specs.declared.NormalModule.{NormalModule}
use Rattle.table_words.specs.declared.words.Flag.{Flag}
use Rattle.table_words.specs.declared.words.Flag.TheVariants.{Lazy, Await, Module, Node, Entry}

abbrev pub flag_of : NormalModule → Flag → Bool
flag_of m Lazy = m.lazy_export
flag_of m Await = m.top_level_await
flag_of m Module = m.module_or_exports
flag_of m Node = m.node_esm
flag_of m Entry = m.entry

abbrev pub with_flag : NormalModule → Flag → NormalModule
with_flag m Lazy = record { scanned = m.scanned; lazy_export = true; top_level_await = m.top_level_await; module_or_exports = m.module_or_exports; node_esm = m.node_esm; entry = m.entry; await_span = m.await_span }
with_flag m Await = record { scanned = m.scanned; lazy_export = m.lazy_export; top_level_await = true; module_or_exports = m.module_or_exports; node_esm = m.node_esm; entry = m.entry; await_span = m.await_span }
with_flag m Module = record { scanned = m.scanned; lazy_export = m.lazy_export; top_level_await = m.top_level_await; module_or_exports = true; node_esm = m.node_esm; entry = m.entry; await_span = m.await_span }
with_flag m Node = record { scanned = m.scanned; lazy_export = m.lazy_export; top_level_await = m.top_level_await; module_or_exports = m.module_or_exports; node_esm = true; entry = m.entry; await_span = m.await_span }
with_flag m Entry = record { scanned = m.scanned; lazy_export = m.lazy_export; top_level_await = m.top_level_await; module_or_exports = m.module_or_exports; node_esm = m.node_esm; entry = true; await_span = m.await_span }
