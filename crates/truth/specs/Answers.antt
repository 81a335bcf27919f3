-- What the operation `truth` answers: document 01, "Answers by number".
-- Assumes nothing.
use Rattle.std.specs.Prelude.{Result, Bool, List, ℕ, length}
use Rattle.figures.specs.declared.Refusal.{Refusal}
use Rattle.figures.specs.Refusals.{Outcome, result_says, ◌then◌}
use Rattle.figures.specs.Refusals.Outcome.{gives}
use Rattle.rows.specs.Rows.{Row}
use Rattle.codec.specs.Codec.{rows_of}
use Rattle.rows.specs.Checks.{table_sized, rows_checked}
use Rattle.signals.specs.Truth.{holds}
use Rattle.run_checks.specs.RunChecks.{run_checked}

-- what an answer says: true where the formula holds of the run, false where it fails, or the refusal's number and place
abbrev pub verdict_says : Result Bool Refusal → Outcome Bool
verdict_says = result_says (λ holds. holds)

-- 8, 10 and 11, and then the verdict
abbrev pub rows_say : List Row → List ℕ → ℕ → Outcome Bool
rows_say rows run conditions =
    rows_checked conditions rows then λ _. run_checked conditions run then λ _. gives (holds rows run)

-- "Truth takes any formula table and gives neither 9 nor 12", "checks in order of number": 3, 7, 8, 10, 11, and then the verdict
unfoldable pub truth_says : List ℕ → List ℕ → ℕ → Outcome Bool
truth_says table run conditions = table_sized conditions (length table) then λ _. rows_say (rows_of table) run conditions
