-- `marking::mark_runs` meets its contract: the marks of the runs passed are right, and the count is that of those that the requirement holds of.
use mathlib.Core.Path.{◌≡◌}
use mathlib.Core.Bool.{Bool}
use mathlib.Core.List.{List}
use Prim.Native.Nat.{ℕ, ◌≤◌}
use lib.ListN.{length}
use Rattle.rows.specs.Rows.{Row}
use Rattle.signals.specs.Truth.{holds}
use Rattle.layout.specs.Layout.{form1}
use Rattle.layout.specs.Checks.{run_words_in}
use Rattle.row_lines.specs.RowLines.{block_words}
use Rattle.bench.specs.Coverage.{size}
use Rattle.bench.specs.Tables.{Marked}
use Rattle.marking.proofs.mark_runs.Given as goal

-- the requirement holds of run j
abbrev pub held : List ℕ → List Row → ℕ → Bool
held file rows j = holds rows (run_words_in form1 file j)

abbrev pub invariant-loop-j : goal.invariant-loop-j
invariant-loop-j l =
    (l.count ≡ size l.j (held l.runs.file.now l.rows)) × (l.count ≤ l.j) × Marked l.rows (run_words_in form1 l.runs.file.now) l.j l.marks.cells
    × (length l.lines ≡ block_words)
