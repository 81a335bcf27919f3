-- `occurrences::occurrence_row` meets its contract: the row in hand follows as many occurrences as were seen.
use mathlib.Core.Path.{◌≡◌}
use Prim.Native.Nat.{◌≤◌}
use lib.ListN.{length}
use Rattle.figures.specs.Numbers.{below}
use Rattle.rows.specs.Checks.{condition_at}
use Rattle.occurrences.proofs.occurrence_row.Given as goal

abbrev pub invariant-loop-r : goal.invariant-loop-r
invariant-loop-r l = (l.seen ≡ length (below l.r (condition_at l.rows))) × (l.seen ≤ l.occurrence.0) × (l.seen ≤ l.r)
