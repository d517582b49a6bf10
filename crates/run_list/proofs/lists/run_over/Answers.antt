use Rattle.std.proofs.Common.{◌≡◌, ℕ, List, ◌++◌, length, take, drop, sym, ap, ◌∙◌, subst, arith}
use Rattle.std.specs.Result.{result_unwrap_or}
use Rattle.marks.specs.declared.rows.MarkRow.{MarkRow}
use Rattle.marks.specs.declared.rows.WrapperRow.{WrapperRow}
use Rattle.runs.specs.Ended.{EndsSettled}
use Rattle.run_list.proofs.Ends.{after_lend, ends_front}
use Rattle.run_list.proofs.Lengths.{within}
use Rattle.run_list.proofs.lists.run_over.Goals as goal

pub returns : goal.returns
returns g c =
    let w = g.S.ModuleSource.meaning c.args.source.now in
    let o = c.args.options in
    let finish = c.run_calls-finish.result in
    let marks = c.run_calls-finish.new.marks in
    let wrappers = c.run_calls-finish.new.wrappers in
    let all_marks : length marks ≡ c.args.marks.len = omega (arith, c.run_calls-finish.auto.marks, c.as_mut_slice.ensures.len) in
    let all_wrappers : length wrappers ≡ c.in_ok-wrappers.wrappers.len = omega (arith, c.run_calls-finish.auto.wrappers, c.as_mut_slice-3.ensures.len) in
    let held = after_lend c.args.marks.len c.args.marks.items marks all_marks in
    let listed = after_lend c.in_ok-wrappers.wrappers.len c.in_ok-wrappers.wrappers.items wrappers all_wrappers in
    let cut : c.truncate-2.new.self.items ≡ take (result_unwrap_or finish 0) wrappers = c.truncate-2.ensures.items ∙ ap (take c.unwrap_or.result) listed ∙ ap (λ (k : ℕ). take k wrappers) c.unwrap_or.ensures in
    record {
      small = record {
        marks = within c.args.marks.len (marks ++ drop (length marks) c.args.marks.items) 4096 (omega (arith, c.requires.modules));
        awaits = omega (arith, c.truncate.ensures.len, c.truncate.new.self.ok.0, c.in_ok-awaits.ensures.len, c.requires.records);
        wrappers = omega (arith, c.truncate-2.ensures.len, c.truncate-2.new.self.ok.0, c.in_ok-wrappers.ensures.len, c.requires.modules);
      };
      settled =
          subst (λ (rows : List MarkRow). EndsSettled finish w o rows c.truncate-2.new.self.items) (sym held)
          (subst (λ (list : List WrapperRow). EndsSettled finish w o marks list) (sym cut) (ends_front w o marks wrappers finish c.run_calls-finish.ensures));
    }
