-- The rows of `require`s that would have to wait.
--
--   target_waits, gives_row   a record's target waits; a record is a `Require` whose target waits. `waits` says which modules do
--   rows_in                   how many of these records give a row
--   rows_before, row_total    how many rows the modules below m give; all modules
--   row_place                 how many rows stand before that of record k of module m, in scan order
--   await_span                where a module's first `await` stands
--   no_row, row_in            the i-th row, and what a look-up finds past the last
--   RowOf                     a row is that of record k of module m, a `Require` of module t
--   RowsWritten               the rows of the modules below `done` stand in their places, n in all, and the others stay
--   Waiting, RowCount         a test is yes exactly of the modules that wait; there are n rows
--   RowAt                     the i-th row is that of some `Require` of a module that waits
--   AwaitRows                 all rows stand in their places, one for each such record and no others
use Rattle.std.specs.Prelude.{◌≡◌, ℕ, ◌+◌, ◌<◌, ◌≤◌, Bool, true, false, ◌&&◌, ◌↔◌, List, length, take, Some, None, sum_by, count_by, Option, slice_index_or}
use Rattle.source.specs.declared.ImportKind.TheVariants.{Require}
use Rattle.source.specs.declared.ImportRecord.{ImportRecord}
use Rattle.source.specs.declared.Module.{Module}
use Rattle.source.specs.declared.Module.TheVariants.{External, Normal}
use Rattle.source.specs.declared.Span.{Span}
use Rattle.source.specs.Meaning.{Meaning, Scanned, count_of, module_at, records_of, record_at}
use Rattle.marks.specs.declared.rows.AwaitRow.{AwaitRow}
use Rattle.marks.specs.Passes.{Awaits}
use Rattle.marks.specs.Records.{Points}
use Rattle.ways.specs.Targets.{is_require}
use Rattle.tla.specs.Search.{SourceOf, Told}

abbrev pub target_waits : (ℕ → Bool) → Option ℕ → Bool
target_waits waits None = false
target_waits waits (Some t) = waits t

abbrev pub gives_row : (ℕ → Bool) → ImportRecord → Bool
gives_row waits r = is_require r.kind && target_waits waits r.target

abbrev pub rows_in : (ℕ → Bool) → List ImportRecord → ℕ
rows_in waits rs = count_by (gives_row waits) rs

abbrev pub rows_before : Meaning → (ℕ → Bool) → ℕ → ℕ
rows_before w waits m = sum_by (λ (s : Scanned). rows_in waits s.records) (take m w.modules)

abbrev pub row_place : Meaning → (ℕ → Bool) → ℕ → ℕ → ℕ
row_place w waits m k = rows_before w waits m + rows_in waits (take k (records_of w m))

abbrev pub row_total : Meaning → (ℕ → Bool) → ℕ
row_total w waits = sum_by (λ (s : Scanned). rows_in waits s.records) w.modules

abbrev pub await_span : Module → Span
await_span External = record { start = 0; end = 0 }
await_span (Normal n) = n.await_span

abbrev pub no_row : AwaitRow
no_row = record { importer = 0; «record» = 0; source = 0; span = record { start = 0; end = 0 }; await_span = record { start = 0; end = 0 } }

abbrev pub row_in : List AwaitRow → ℕ → AwaitRow
row_in rows i = slice_index_or rows i no_row

pub record RowOf (w : Meaning) (m k t : ℕ) (row : AwaitRow) : Type 0 where
  pub by : row.importer ≡ m
  pub at : row.«record» ≡ k
  pub found : SourceOf w t (Some row.source)
  pub reached : Told w t (Some row.source)
  pub asked : row.span ≡ (record_at w m k).span
  pub awaited : row.await_span ≡ await_span (module_at w row.source)

pub record RowsWritten (w : Meaning) (waits : ℕ → Bool) (done : ℕ) (old new : List AwaitRow) (n : ℕ) : Type 0 where
  pub count : n ≡ rows_before w waits done
  pub each : (m k t : ℕ) → m < done → Points w m k Require t → waits t ≡ true → RowOf w m k t (row_in new (row_place w waits m k))
  pub rest : (i : ℕ) → n ≤ i → row_in new i ≡ row_in old i

abbrev pub Waiting : Meaning → (ℕ → Bool) → Type 0
Waiting w waits = (t : ℕ) → t < count_of w → (waits t ≡ true) ↔ Awaits w t

abbrev pub RowCount : Meaning → ℕ → Type 0
RowCount w n = (waits : ℕ → Bool) × Waiting w waits × (n ≡ row_total w waits)

pub record RowAt (w : Meaning) (waits : ℕ → Bool) (i : ℕ) : Type 0 where
  pub importer : ℕ
  pub place : ℕ
  pub target : ℕ
  pub points : Points w importer place Require target
  pub waiting : waits target ≡ true
  pub here : row_place w waits importer place ≡ i

pub record AwaitRows (w : Meaning) (old new : List AwaitRow) (n : ℕ) : Type 0 where
  pub waits : ℕ → Bool
  pub when : Waiting w waits
  pub count : n ≡ row_total w waits
  pub all : (i : ℕ) → i < n → RowAt w waits i
  pub long : length new ≡ length old
  pub each : (m k t : ℕ) → Points w m k Require t → Awaits w t → RowOf w m k t (row_in new (row_place w waits m k))
  pub rest : (i : ℕ) → n ≤ i → row_in new i ≡ row_in old i
