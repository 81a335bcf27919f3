-- `blocks::first_column` meets its contract: the words stored are those of their rows at the block's first step.
use mathlib.Core.Path.{◌≡◌}
use Prim.Native.Nat.{ℕ, ◌<◌}
use lib.ListN.{length, get_or}
use Rattle.lengths.specs.Lengths.{most_requirement_rows}
use Rattle.row_lines.specs.RowLines.{line_at}
use Rattle.blocks.proofs.first_column.Given as goal

abbrev pub invariant-loop-r : goal.invariant-loop-r
invariant-loop-r l = (length l.column ≡ most_requirement_rows) × ((q : ℕ) → q < l.r → get_or l.column q 0 ≡ line_at l.lines q 0)
