-- `row_lines::put_line` meets its contract: from the block's last step to its first, each word that is stored is the row's cell in every lane.
use mathlib.Core.Path.{◌≡◌}
use mathlib.Core.Bool.{◌&&◌}
use Prim.Native.Nat.{ℕ, ◌<◌}
use lib.Dec.{eqb}
use Rattle.lanes.specs.Lanes.{lane_count, lane}
use Rattle.row_lines.specs.RowLines.{ahead_at}
use Rattle.row_lines.proofs.Lined.{Passed}
use Rattle.row_lines.proofs.put_line.Given as goal

abbrev pub invariant-loop-t : goal.invariant-loop-t
invariant-loop-t l =
    Passed l.kind l.line l.words l.steps l.initial.lines l.lines l.t × (l.a_next ≡ ahead_at l.steps l.line.first_after l.initial.lines l.line.first l.t) ×
    (l.next ≡ ahead_at l.steps l.line.row_after l.lines l.line.row l.t) × ((k : ℕ) → k < lane_count → lane l.ends k ≡ (l.line.last && eqb l.t l.steps))
