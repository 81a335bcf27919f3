-- `blocks::block_words` meets its contract: the words stored are the run's from the block's first step on.
use mathlib.Core.Path.{◌≡◌}
use Prim.Native.Nat.{ℕ, ◌+◌, ◌<◌}
use lib.ListN.{length, get_or}
use Rattle.layout.specs.Checks.{words_of}
use Rattle.row_lines.specs.RowLines.{block_steps}
use Rattle.blocks.proofs.block_words.Given as goal

abbrev pub invariant-loop-t : goal.invariant-loop-t
invariant-loop-t l = (length l.words ≡ block_steps) × ((q : ℕ) → q < l.t → get_or l.words q 0 ≡ get_or (words_of l.run) (l.from + q) 0)
