-- `codec::decode` meets its contract: the rows so far are pushed, one for each three bytes.
use mathlib.Core.Path.{◌≡◌}
use Rattle.figures.specs.Numbers.{tabulate}
use Rattle.codec.specs.Codec.{row_of}
use Rattle.codec.proofs.decode.Given as goal

abbrev pub invariant-loop-r : goal.invariant-loop-r
invariant-loop-r l = l.rows.items ≡ tabulate l.r (row_of l.bytes)
