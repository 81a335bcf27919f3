-- `covs::put_covs` meets its contract: the lines of the occurrences passed stand in order.
use mathlib.Core.Bool.{Bool, cond}
use mathlib.Core.List.{List, []}
use Prim.Native.Nat.{ℕ}
use Rattle.rows.specs.Rows.{Row}
use Rattle.lines.specs.Texts.{in_order}
use Rattle.bench.specs.Coverage.{row_of_occurrence}
use Rattle.bench.specs.Longest.{cov_lines_most}
use Rattle.bench.specs.Sheet.{cov_line}
use Rattle.bench.specs.Tables.{marked}
use Rattle.lines.proofs.InOrder.{InTurn}
use Rattle.covs.proofs.put_covs.Given as goal

-- what an occurrence's pairs say
abbrev pub said : ℕ → List Row → List Bool → ℕ → ℕ → List ℕ
said q rows marks runs o = in_order runs (λ j. cond (marked marks (row_of_occurrence rows o) j) (cov_line q o j) [])

abbrev pub invariant-loop-o : goal.invariant-loop-o
invariant-loop-o g l = InTurn (said l.q.0 l.rows l.marks.cells l.runs.0) cov_lines_most l.initial.page.text.items l.o l.page.text.items
