-- What a report says.
--
--   Quiet        nothing goes to standard error
--   Whole        standard error has text only where the status is 1 and nothing goes to standard output: nothing is half printed
--   status       1 or 0
--   run_text     how a run with these words is told: the words in a line, what goes to both, and a line with the status
use Rattle.std.specs.Prelude.{◌≡◌, ℕ, true, cond, ◌⊎◌, List, [], ◌∷◌, ◌++◌, string_bytes, codes, decimal}
use Rattle.commands.specs.declared.report.Report.{Report}

abbrev pub Quiet : Report → Type 0
Quiet report = string_bytes report.err ≡ []

abbrev pub Whole : Report → Type 0
Whole report = Quiet report ⊎ ((string_bytes report.out ≡ []) × (report.failed ≡ true))

abbrev pub status : Report → ℕ
status report = cond report.failed 1 0

abbrev pub run_text : List ℕ → Report → List ℕ
run_text words report =
    codes "$ tuchovai " ++ (words ++ (10 ∷ (string_bytes report.out ++ (string_bytes report.err ++ (codes "status " ++ (decimal (status report) ++ (10 ∷ [])))))))
