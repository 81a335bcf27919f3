-- `codec::encode` meets its contract: the rows passed stand at the front of what was lent, and what stood there after them.
use mathlib.Core.Path.{◌≡◌}
use Prim.Native.Nat.{◌*◌, ◌≤◌}
use lib.ListN.{length}
use Rattle.codec.proofs.Bytes.{written}
use Rattle.codec.proofs.encode.Given as goal

abbrev pub invariant-loop-r : goal.invariant-loop-r
invariant-loop-r l = (3 * length l.rows ≤ length l.initial.out) × (length l.out ≡ length l.initial.out) × (l.out ≡ written l.rows l.initial.out l.r)
