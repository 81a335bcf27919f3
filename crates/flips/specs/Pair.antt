-- A pair of occurrence and run past all checks: what the engine and the theorems ask of it. Nobody needs to believe this page.
-- Assumes nothing.
use Rattle.std.proofs.Math.Bool.{So}
use Rattle.std.specs.Prelude.{List, ℕ, ◌<◌, ◌≤◌, length}
use Rattle.lengths.specs.Lengths.{most_steps}
use Rattle.rows.specs.Rows.{Row, row_at}
use Rattle.rows.specs.Checks.{is_condition, IsRequirement}
use Rattle.signals.specs.Column.{Fit}

pub record Pair (rows : List Row) (run : List ℕ) (p : ℕ) : Type 0 where
  pub fit : Fit rows
  pub is : IsRequirement rows
  pub inside : p < length rows
  pub condition : So (is_condition (row_at rows p))
  pub some_step : 0 < length run
  pub few_steps : length run ≤ most_steps
