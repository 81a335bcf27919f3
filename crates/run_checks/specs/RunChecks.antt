-- The checks of a lone run: document 01, "Answers by number".
-- Assumes nothing.
use Rattle.std.specs.Prelude.{List, ℕ, length}
use Rattle.std.specs.Prelude.{Option, None, Some}
use Rattle.figures.specs.declared.StepNumber.{StepNumber}
use Rattle.figures.specs.declared.StepPlace.TheVariants as step_place
use Rattle.figures.specs.declared.Refusal.TheVariants.{StrayBit}
use Rattle.figures.specs.Refusals.{Outcome, ◌then◌}
use Rattle.lengths.specs.Lengths.{run_of}
use Rattle.figures.specs.Numbers.{refused_at}
use Rattle.signals.specs.Truth.{lowest_stray}

-- what a search for a step found
abbrev pub found_step : Option StepNumber → Option ℕ
found_step (Some i) = Some i.0
found_step None = None

-- 10 and 11 on a lone run, 11 at the step's number
abbrev pub run_checked : ℕ → List ℕ → Outcome (Unit {0})
run_checked conditions run =
    run_of (length run) then λ _. refused_at (λ i. StrayBit (step_place.Lone (record { 0 = i }))) (lowest_stray conditions run)
