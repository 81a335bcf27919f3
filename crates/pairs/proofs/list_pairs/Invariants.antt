-- `pairs::list_pairs` meets its contract: the pairs passed stand in order, by occurrence and then by run.
use mathlib.Core.Bool.{Bool, cond}
use mathlib.Core.List.{List, []}
use Prim.Native.Nat.{ℕ, ◌/◌, ◌%◌}
use Rattle.rows.specs.Rows.{Row}
use Rattle.bench.specs.Coverage.{row_of_occurrence, pair_bytes}
use Rattle.bench.specs.Tables.{marked}
use Rattle.lines.proofs.InOrder.{InTurn}
use Rattle.pairs.proofs.list_pairs.Given as goal

-- what the pair of an occurrence and a run says
abbrev pub said : List Row → List Bool → ℕ → ℕ → List ℕ
said rows marks o j = cond (marked marks (row_of_occurrence rows o) j) (pair_bytes o j) []

abbrev pub invariant-loop-n : goal.invariant-loop-n
invariant-loop-n l = InTurn (λ k. said l.rows l.marks.cells (k / l.fn.runs.0) (k % l.fn.runs.0)) 2 [] l.n l.pairs.items
