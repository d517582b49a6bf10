use Rattle.std.proofs.Common.{◌≡◌, ℕ, ◌+◌, ◌<◌, true, List, ◌++◌, length, drop, set, sym, ap, ◌∙◌, arith, rules}
use Rattle.source.specs.declared.Module.{Module}
use Rattle.source.specs.Meaning.{count_of, module_at}
use Rattle.marks.specs.declared.rows.WrapperRow.{WrapperRow}
use Rattle.marks.specs.Rows.{row_at}
use Rattle.wrappers.specs.Wrappers.{ends_wrapped, wrapper_row, wrapper_rows}
use Rattle.wrappers.proofs.Rows.{rows_yes, rows_no, count_yes, room, set_behind}
use Rattle.wrappers.proofs.finish.write_wrappers.Goals as goal
use Rattle.wrappers.proofs.finish.write_wrappers.Goals.{then-ends_wrapped, else-ends_wrapped}

one_more : (g : _) (c : goal.After-wrapper_row g) → c.loop-m.n < length c.loop-m.list
one_more g c =
    let w = g.S.ModuleSource.meaning c.args.source.now in
    let o = c.args.options in
    let rows = c.args.rows.now in
    let m = c.loop-m.m in
    let tested : ends_wrapped o (module_at w m) (row_at rows m) ≡ true = sym (c.ends_wrapped.ensures ∙ ap (λ (d : Module). ends_wrapped o d (row_at rows m)) c.module.ensures) ∙ c.if-ends_wrapped.true in
    let lt : m < count_of w = omega (arith, c.module_count-m-end.ensures) in
    omega (arith, room w o rows m (count_of w) (length c.args.list.now) lt c.requires.room tested, c.loop-m.invariant.0, c.loop-m.auto.list)

pub offset_bounds-list-n : goal.offset_bounds-list-n
offset_bounds-list-n g c = let h = one_more g c in search rules

pub bounds-list-n : goal.bounds-list-n
bounds-list-n g c = one_more g c

pub overflow_add-n : goal.overflow_add-n
overflow_add-n g c = let h = one_more g c in search rules

pub loop-m-preserved : goal.loop-m-preserved
loop-m-preserved g c =
    let w = g.S.ModuleSource.meaning c.args.source.now in
    let o = c.args.options in
    let rows = c.args.rows.now in
    let m = c.loop-m.m in
    let n = c.loop-m.n in
    let old = c.args.list.now in
    let done = wrapper_rows w o rows m in
    let row = wrapper_row o m (row_at rows m).kind in
    let tested : c.ends_wrapped.result ≡ ends_wrapped o (module_at w m) (row_at rows m) = c.ends_wrapped.ensures ∙ ap (λ (d : Module). ends_wrapped o d (row_at rows m)) c.module.ensures in
    let lt : m < count_of w = omega (arith, c.module_count-m-end.ensures) in
    elim c.if-ends_wrapped.branch [
      | then-ends_wrapped v ↦
          (let yes = sym tested ∙ v.if-ends_wrapped.true in
          let h : n < length old = omega (arith, room w o rows m (count_of w) (length old) lt c.requires.room yes, c.loop-m.invariant.0) in (
            omega (arith, v.n-is, c.loop-m.invariant.0, count_yes w o rows m yes),
            v.list-is
                ∙ ap (λ (x : WrapperRow). set c.loop-m.list n x) v.wrapper_row.ensures
                ∙ ap (λ (xs : List WrapperRow). set xs n row) c.loop-m.invariant.1
                ∙ set_behind done old n row row c.loop-m.invariant.0 h
                ∙ ap (λ (xs : List WrapperRow). xs ++ drop (n + 1) old) (sym (rows_yes w o rows m yes))
                ∙ ap (λ (k : ℕ). wrapper_rows w o rows (m + 1) ++ drop k old) (sym v.n-is),
          ))
      | else-ends_wrapped v ↦
          (let not = sym tested ∙ v.if-ends_wrapped.false in (
            v.n-is ∙ c.loop-m.invariant.0 ∙ ap length (sym (rows_no w o rows m not)),
            v.list-is ∙ c.loop-m.invariant.1
                ∙ ap (λ (xs : List WrapperRow). xs ++ drop n old) (sym (rows_no w o rows m not))
                ∙ ap (λ (k : ℕ). wrapper_rows w o rows (m + 1) ++ drop k old) (sym v.n-is),
          ))
    ]
