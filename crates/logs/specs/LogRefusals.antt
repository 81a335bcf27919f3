-- What refuses a log: document 02, wish 5.
-- Assumes nothing.
use Rattle.std.specs.Prelude.{Option, None, Some, Result, Ok, Err, cond, List, ℕ, suc, ◌%◌, eqb, length}
use Rattle.figures.specs.declared.StepNumber.{StepNumber}
use Rattle.figures.specs.declared.StepCount.{StepCount}
use Rattle.figures.specs.declared.Place.{Place}
use Rattle.figures.specs.declared.Place.TheVariants as place
use Rattle.figures.specs.declared.Refusal.TheVariants.{RunLength}
use Rattle.figures.specs.Refusals.{Outcome, number_of, place_of, refusal, ◌then◌}
use Rattle.figures.specs.Refusals.Outcome.{refused, gives}
use Rattle.lengths.specs.Lengths.{run_of}
use Rattle.logs.specs.declared.LogRefusal.{LogRefusal}
use Rattle.logs.specs.declared.LogRefusal.TheVariants as log_refusals
use Rattle.encoder.specs.Log.{count_bytes, steps_in, lowest_half_turn}

-- one of document 01's refusals, or 17 at the later step
abbrev pub log_number : LogRefusal → ℕ
log_number (log_refusals.Listed r) = number_of r
log_number (log_refusals.HalfTurn i) = 17

abbrev pub log_place : LogRefusal → Place
log_place (log_refusals.Listed r) = place_of r
log_place (log_refusals.HalfTurn i) = place.Step i

abbrev pub log_refusal {ℓ} : {A : Type ℓ} → LogRefusal → Outcome A
log_refusal r = refused (log_number r) (log_place r)

-- what a search for a step found
abbrev pub step_says : Option StepNumber → Option ℕ
step_says (Some i) = Some i.0
step_says None = None

-- what a check of a log answers: its number of steps, or the refusal's number and place
abbrev pub log_says : Result StepCount LogRefusal → Outcome ℕ
log_says (Ok n) = gives n.0
log_says (Err r) = log_refusal r

-- 10, "for the steps or an odd number of bytes", else the number of steps
abbrev pub steps_of : List ℕ → Outcome ℕ
steps_of log = cond (eqb (length log % count_bytes) 0) (run_of (steps_in log)) (refusal RunLength)

-- 17, "at the later step"
abbrev pub turns_of : Option ℕ → Outcome (Unit {0})
turns_of None = gives tt
turns_of (Some k) = log_refusal (log_refusals.HalfTurn (record { 0 = suc k }))

-- 10 and then 17, else the number of steps
unfoldable pub log_of : List ℕ → Outcome ℕ
log_of log = steps_of log then λ n. turns_of (lowest_half_turn log) then λ _. gives n
