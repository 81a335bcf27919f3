-- `covs::put_covs_of` meets its contract: the lines of the runs passed stand in order.
use mathlib.Core.Bool.{Bool, cond}
use mathlib.Core.List.{List, []}
use Prim.Native.Nat.{ℕ}
use Rattle.bench.specs.Longest.{cov_line_most}
use Rattle.bench.specs.Sheet.{cov_line}
use Rattle.bench.specs.Tables.{marked}
use Rattle.lines.proofs.InOrder.{InTurn}
use Rattle.covs.proofs.put_covs_of.Given as goal

-- what a run's pair says
abbrev pub said : List Bool → ℕ → ℕ → ℕ → ℕ → List ℕ
said marks q o p j = cond (marked marks p j) (cov_line q o j) []

abbrev pub invariant-loop-j : goal.invariant-loop-j
invariant-loop-j g l = InTurn (said l.marks.cells l.q.0 l.o.0 l.p.0) cov_line_most l.initial.page.text.items l.j l.page.text.items
