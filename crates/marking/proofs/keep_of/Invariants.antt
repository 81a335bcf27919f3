-- `marking::keep_of` meets its contract: each occurrence passed leaves out the lane of its number, and no other row leaves out any.
use mathlib.Core.Path.{◌≡◌}
use Prim.Native.Nat.{◌≤◌}
use lib.ListN.{length}
use Rattle.lengths.specs.Lengths.{most_requirement_rows}
use Rattle.marking.specs.Flipped.{number_in, Keeps}
use Rattle.marking.proofs.keep_of.Given as goal

abbrev pub invariant-loop-r : goal.invariant-loop-r
invariant-loop-r l = (l.o ≡ number_in l.rows l.r) × (l.o ≤ l.r) × (length l.keep ≡ most_requirement_rows) × Keeps l.rows l.keep l.r
