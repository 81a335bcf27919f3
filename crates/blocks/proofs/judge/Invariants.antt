-- `blocks::judge` meets its contract: after each turn the later column is right for the step in hand in every lane.
use mathlib.Core.Path.{◌≡◌}
use Prim.Native.Nat.{◌≤◌, ◌<◌}
use lib.ListN.{length}
use Rattle.layout.specs.Checks.{words_of}
use Rattle.row_lines.specs.RowLines.{block_words}
use Rattle.blocks.specs.Blocks.{ColumnTrue}
use Rattle.blocks.proofs.judge.Given as goal

abbrev pub invariant-loop-i : goal.invariant-loop-i
invariant-loop-i l = (l.i ≤ l.steps) × (length l.lines ≡ block_words) × (l.i < l.steps → ColumnTrue l.rows l.keep l.flips (words_of l.run) l.i l.after)

abbrev pub decreases-loop-i : goal.decreases-loop-i
decreases-loop-i l = l.i
