use Rattle.std.proofs.Common.{◌≡◌, ◌+◌, ◌-◌, ◌≤◌, length, take, drop, sym, ap, ◌∙◌, arith, rules}
use Rattle.source.specs.Meaning.{Scanned}
use Rattle.row_source.specs.declared.rows.ModuleRow.{ModuleRow}
use Rattle.row_source.specs.Rows.{row_scanned}
use Rattle.row_source.specs.Propers.{zero_row, scanned_in, row_within}
use Rattle.row_source.proofs.opened.RowSource.records_of.Goals as goal

pub slice_bounds-result-end-2 : goal.slice_bounds-result-end-2
slice_bounds-result-end-2 c =
    let s = c.args.self.now in
    let at = c.in-Some.ensures.lookup.3 in
    let within = row_within s.modules.now s.records.now s.accepted c.args.m at.0 in
    let here : c.in-Some.row.now.first + c.in-Some.row.now.count ≤ length s.records.now = rw (at.1 zero_row) within in
    search rules

pub returns : goal.returns
returns c =
    let s = c.args.self.now in
    let at = c.in-Some.ensures.lookup.3 in
    let row = c.in-Some.row.now in
    let size : row.first + row.count - row.first ≡ row.count = omega arith in
    ap (λ n. take n (drop row.first s.records.now)) size
    ∙ ap (λ (r : ModuleRow). (row_scanned s.records.now r).records) (at.1 zero_row)
    ∙ sym (ap (λ (x : Scanned). x.records) (scanned_in s.modules.now s.records.now s.runtime c.args.m at.0))
