-- What the operation `list` answers and writes: document 01, "Coverage" and "Answers by number".
-- Assumes nothing.
use Rattle.std.specs.Prelude.{cond, List, ℕ, ◌*◌, leb, ltb, length}
use Rattle.figures.specs.declared.Refusal.TheVariants.{NoSuch, ShortOutput}
use Rattle.figures.specs.Refusals.{Outcome, refusal, ◌then◌}
use Rattle.figures.specs.Refusals.Outcome.{gives}
use Rattle.rows.specs.Rows.{Row}
use Rattle.rows.specs.Checks.{occurrences}
use Rattle.layout.specs.Layout.{form1, requirements_in, runs_in}
use Rattle.layout.specs.Checks.{file_says, requirement_rows_in, run_words_in}
use Rattle.bench.specs.Coverage.{covered_of, pairs_listed, pair_bytes, list_bytes}
use Rattle.bench.specs.Files.{bench_of}

-- the covered pairs of one requirement, two bytes each
abbrev pub pairs_of : List Row → ℕ → (ℕ → List ℕ) → List ℕ
pairs_of rows runs words = pairs_listed rows runs (covered_of rows words) pair_bytes

-- 14, "for the list 2 times occurrences times runs"
abbrev pub rows_listed : List Row → ℕ → (ℕ → List ℕ) → ℕ → Outcome ℕ
rows_listed rows runs words room =
    cond (leb (2 * (length (occurrences rows) * runs)) room) (gives (length (pairs_of rows runs words))) (refusal ShortOutput)

-- 12, "no such requirement", then 14; requirements of one file, runs of another
abbrev pub list_from : List ℕ → List ℕ → ℕ → ℕ → Outcome ℕ
list_from ours theirs q room =
    cond (ltb q (requirements_in ours)) (rows_listed (requirement_rows_in form1 ours q) (runs_in theirs) (run_words_in form1 theirs) room) (refusal NoSuch)

-- the file's refusals, then 12, then 14, then the bytes written
unfoldable pub list_of : List ℕ → ℕ → ℕ → Outcome ℕ
list_of file q room = file_says form1 file then λ _. list_from file file q room

-- what is written: the list of requirement q
abbrev pub listed : List ℕ → ℕ → List ℕ
listed file q = list_bytes (bench_of file file) q
