-- The limits of a suite: document 01, "What is counted", and the refusals that they give.
-- Assumes nothing.
use Rattle.std.specs.Prelude.{Result, ℕ, Bool, cond, ◌&&◌, leb}
use Rattle.limits.specs.declared.Suite.{Suite}
use Rattle.figures.specs.declared.Refusal.{Refusal}
use Rattle.figures.specs.declared.Refusal.TheVariants.{FileBytes, Counts}
use Rattle.figures.specs.Refusals.{Outcome, refusal, result_says}
use Rattle.figures.specs.Refusals.Outcome.{gives}

-- "Thing, Least, Most"
abbrev pub most_conditions : ℕ
most_conditions = 32

abbrev pub most_requirements : ℕ
most_requirements = 16

abbrev pub most_runs : ℕ
most_runs = 64

abbrev pub least_bytes : ℕ
least_bytes = 4

abbrev pub most_bytes : ℕ
most_bytes = 65535

abbrev pub within : ℕ → ℕ → ℕ → Bool
within least most n = leb least n && leb n most

-- what the limits refuse: 3, "a count of conditions, requirements or runs beyond its limits"
abbrev pub counts_within : ℕ → ℕ → ℕ → Bool
counts_within c q r = within 1 most_conditions c && (within 1 most_requirements q && within 1 most_runs r)

-- 3, else the suite's counts
unfoldable pub suite_of : ℕ → ℕ → ℕ → Outcome Suite
suite_of c q r =
    cond (counts_within c q r)
    (gives (record { conditions = record { 0 = c }; requirements = record { 0 = q }; runs = record { 0 = r } }))
    (refusal Counts)

-- 1, "file under 4 or over 65,535 bytes"
unfoldable pub file_of : ℕ → Outcome (Unit {0})
file_of bytes = cond (within least_bytes most_bytes bytes) (gives tt) (refusal FileBytes)

-- what each constructor's answer says, in document 01's numbers
abbrev pub suite_says : Result Suite Refusal → Outcome Suite
suite_says = result_says (λ s. s)
