-- `blocks::put_lines` meets its contract: after each turn the lines of the rows passed are true.
use mathlib.Core.Path.{◌≡◌}
use lib.ListN.{length}
use Rattle.row_lines.specs.RowLines.{block_words}
use Rattle.blocks.specs.Blocks.{BlockTrue}
use Rattle.blocks.proofs.put_lines.Given as goal

abbrev pub invariant-loop-r : goal.invariant-loop-r
invariant-loop-r l = (length l.lines ≡ block_words) × BlockTrue l.rows l.keep l.flips l.after l.last l.words l.steps l.lines l.r
