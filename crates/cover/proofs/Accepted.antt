-- What passed checks give: a pair of occurrence and run, at the occurrence's row.
-- Assumes nothing.
use Rattle.figures.specs.declared.Refusal.TheVariants.{UnsoundRow, NotRequirement}
use mathlib.Core.Path.{◌≡◌}
use mathlib.Core.Bool.{So}
use mathlib.Core.List.{List}
use Prim.Native.Nat.{ℕ, ◌<◌, ◌≤◌}
use native.Mathlib.Omega.{arith}
use lib.ListN.{length}
use Rattle.figures.specs.Refusals.Outcome.{gives}
use Rattle.limits.specs.Limits.{most_conditions}
use Rattle.lengths.specs.Lengths.{most_requirement_rows, most_steps}
use Rattle.laws.proofs.Order.{Passes, both_pass, lowest_passes}
use Rattle.laws.proofs.Passed.{Within, run_passes}
use Rattle.rows.specs.Rows.{Row}
use Rattle.rows.specs.Checks.{lone_row, condition_at, occurrence_of, rows_checked, requirement_checked, requirement_rows}
use Rattle.row_laws.proofs.Occurring.{occurrence_condition}
use Rattle.row_laws.proofs.Sound.{requirement}
use Rattle.run_checks.specs.RunChecks.{run_checked}
use Rattle.truth.proofs.Accepted.{fit}
use Rattle.flips.specs.Pair.{Pair}

module _ (rows : List Row) (k : ℕ) {p : ℕ} (there : gives p ≡ occurrence_of rows k) where
  -- 8 to 12 passed
  pub accepted :
      (run : List ℕ) (conditions : ℕ) → conditions ≤ most_conditions → length rows ≤ most_requirement_rows →
      Passes (requirement_rows conditions rows) → Passes (run_checked conditions run) → Pair rows run p
  accepted run conditions c l rows_pass run_pass =
      record {
        fit = fit conditions rows passed.0 c (omega arith);
        is = requirement rows conditions ((lowest_passes (λ x. UnsoundRow (lone_row x)) (length rows) _).0 passed.0) ((lowest_passes (λ x. NotRequirement (lone_row x)) (length rows) _).0 passed.1);
        inside = condition.0;
        condition = condition.1;
        some_step = steps.0;
        few_steps = steps.1;
      }
    where
      passed : Passes (rows_checked conditions rows) × Passes (requirement_checked rows)
      passed = (both_pass _ _).0 rows_pass

      condition : (p < length rows) × So (condition_at rows p)
      condition = occurrence_condition rows k there

      steps : Within 1 most_steps (length run)
      steps = (run_passes (length run)).0 ((both_pass _ _).0 run_pass).0
