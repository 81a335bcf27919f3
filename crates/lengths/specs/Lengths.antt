-- The lengths of tables and runs: document 01, "What is counted", and the refusals that their limits give.
-- Assumes nothing.
use Rattle.std.specs.Prelude.{Result, ℕ, ◌/◌, ◌%◌, Bool, cond, ◌&&◌, eqb}
use Rattle.lengths.specs.declared.Rows.{Rows}
use Rattle.lengths.specs.declared.Run.{Run}
use Rattle.figures.specs.declared.Refusal.{Refusal}
use Rattle.figures.specs.declared.Refusal.TheVariants.{TableLength, RunLength}
use Rattle.figures.specs.Refusals.{Outcome, refusal, result_says}
use Rattle.figures.specs.Refusals.Outcome.{gives}
use Rattle.limits.specs.Limits.{within}

-- "Thing, Least, Most"
abbrev pub most_requirement_rows : ℕ
most_requirement_rows = 32

abbrev pub most_table_rows : ℕ
most_table_rows = 224

abbrev pub most_steps : ℕ
most_steps = 4096

-- "Rows are three bytes each"
abbrev pub row_bytes : ℕ
row_bytes = 3

-- 7, "table length no multiple of three, or too few or many rows"
abbrev pub rows_within : ℕ → ℕ → Bool
rows_within most bytes = eqb (bytes % row_bytes) 0 && within 1 most (bytes / row_bytes)

-- 7, else the rows of a table that may have so many
unfoldable pub rows_of : ℕ → ℕ → Outcome ℕ
rows_of most bytes = cond (rows_within most bytes) (gives (bytes / row_bytes)) (refusal TableLength)

-- 7, else the rows of a formula table
abbrev pub table_of : ℕ → Outcome ℕ
table_of = rows_of most_table_rows

-- 7, else the rows of a requirement
abbrev pub requirement_of : ℕ → Outcome ℕ
requirement_of = rows_of most_requirement_rows

-- 10, "run of 0 or over 4,096 steps", else its steps
unfoldable pub run_of : ℕ → Outcome ℕ
run_of steps = cond (within 1 most_steps steps) (gives steps) (refusal RunLength)

-- what each constructor's answer says, in document 01's numbers
abbrev pub rows_say : {most : ℕ} → Result (Rows most) Refusal → Outcome ℕ
rows_say = result_says (λ t. t.0.0)

abbrev pub run_says : Result Run Refusal → Outcome ℕ
run_says = result_says (λ n. n.0.0)
