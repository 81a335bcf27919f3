-- `marking::flips_of` meets its contract: the words of the rows passed have the witness's value in every lane.
use mathlib.Core.Path.{◌≡◌}
use Prim.Native.Nat.{◌≤◌}
use lib.ListN.{length}
use Rattle.lengths.specs.Lengths.{most_requirement_rows}
use Rattle.marking.specs.Flipped.{Witnesses}
use Rattle.marking.proofs.flips_of.Given as goal

abbrev pub invariant-loop-r : goal.invariant-loop-r
invariant-loop-r l = (length l.flips ≡ most_requirement_rows) × Witnesses l.rows l.flips l.r
