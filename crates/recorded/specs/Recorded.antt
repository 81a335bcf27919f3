-- Taking in a recorded run: document 02, wish 5. Limits and travel are encoder counts; nothing here is in millimetres or inches.
-- Assumes nothing.
use Rattle.std.specs.Prelude.{Result, cond, List, ℕ, leb, ℤ, length}
use Rattle.figures.specs.declared.StepCount.{StepCount}
use Rattle.logs.specs.declared.LogRefusal.{LogRefusal}
use Rattle.figures.specs.declared.Refusal.TheVariants.{ShortOutput}
use Rattle.figures.specs.Refusals.{Outcome, refusal, ◌then◌}
use Rattle.figures.specs.Refusals.Outcome.{gives}
use Rattle.limits.specs.Limits.{suite_of}
use Rattle.figures.specs.Numbers.{tabulate}
use Rattle.encoder.specs.Log.{steps_in, travel}
use Rattle.logs.specs.LogRefusals.{log_of, log_says}
use Rattle.log_words.specs.StepWord.{word_by}

-- "The result is a lone run": a word a step of the log
abbrev pub run_made : List ℤ → List ℕ → List ℕ
run_made limits log = tabulate (steps_in log) (λ i. word_by limits (travel log i))

-- 14 "for a word a step", else "its number of steps in place of bytes"
abbrev pub room_for : ℕ → ℕ → Outcome ℕ
room_for steps room = cond (leb steps room) (gives steps) (refusal ShortOutput)

-- "3 for 0 or over 32 limits", 10, 17, 14, "in that order"; room is the number of words lent
unfoldable pub taken_of : List ℕ → List ℤ → ℕ → Outcome ℕ
taken_of log limits room = suite_of (length limits) 1 1 then λ _. log_of log then λ steps. room_for steps room

-- what an answer says
abbrev pub taken_says : Result StepCount LogRefusal → Outcome ℕ
taken_says = log_says
