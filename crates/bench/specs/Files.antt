-- What is judged when the requirements come from one file and the runs from another, today the same file.
-- Assumes nothing.
use Rattle.std.specs.Prelude.{List, [], ◌∷◌, ℕ, ◌≤◌, ◌<◌, length}
use Rattle.std.specs.Coded.{×_prop, Unit-prop, le_prop}
use Rattle.std.proofs.Props.{props}
use Rattle.limits.specs.Limits.{most_conditions, most_requirements, most_runs}
use Rattle.lengths.specs.Lengths.{most_requirement_rows, most_steps}
use Rattle.rows.specs.Checks.{All, IsRequirement}
use Rattle.signals.specs.Column.{FitIn}
use Rattle.layout.specs.Layout.{form1, conditions_in, requirements_in, runs_in}
use Rattle.layout.specs.Checks.{requirement_rows_in, run_words_in}
use Rattle.bench.specs.Coverage.{Bench}

abbrev pub bench_of : List ℕ → List ℕ → Bench
bench_of ours theirs =
    record {
      conditions = conditions_in ours;
      requirements = requirements_in ours;
      rows = requirement_rows_in form1 ours;
      runs = runs_in theirs;
      words = run_words_in form1 theirs;
    }

-- a requirement's rows that passed the checks, and a run's words
pub record RowsReady (rows : List (List ℕ)) : Type 0 where
  pub fit : FitIn most_requirement_rows rows
  pub is : IsRequirement rows
  pub some_row : 1 ≤ length rows
  pub few_rows : length rows ≤ most_requirement_rows

pub record RunReady (run : List ℕ) : Type 0 where
  pub some_step : 1 ≤ length run
  pub few_steps : length run ≤ most_steps

-- what the checks leave of a file's requirements, and of a file's runs
pub record RequirementsReady (file : List ℕ) : Type 0 where
  pub few_conditions : conditions_in file ≤ most_conditions
  pub few_requirements : requirements_in file ≤ most_requirements
  pub rows : (q : ℕ) → q < requirements_in file → RowsReady (requirement_rows_in form1 file q)

pub record RunsReady (file : List ℕ) : Type 0 where
  pub few_runs : runs_in file ≤ most_runs
  pub run : (j : ℕ) → j < runs_in file → RunReady (run_words_in form1 file j)

-- that they are ready has one proof at most, so a struct may carry it
lower_prop : (r : ℕ) (ks : List ℕ) → IsProp (All (λ k. k < r) ks)
lower_prop r [] = Unit-prop
lower_prop r (k ∷ ks) = ×_prop le_prop (lower_prop r ks)

pub requirements_ready_prop : (file : List ℕ) → IsProp (RequirementsReady file)
requirements_ready_prop file = Prim.hlevel (props, lower_prop)
