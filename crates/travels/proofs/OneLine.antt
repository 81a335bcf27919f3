-- How wide the digits of a travel are: nine, so that 11 bytes hold its line.
-- Assumes nothing.
use mathlib.Core.Path.{◌≡◌}
use Prim.Native.Nat.{ℕ, ◌*◌, ◌≤◌}
use native.Mathlib.Omega.{arith}
use lib.IntN.{ℤ, nat_abs}
use lib.ListN.{length}
use Rattle.lengths.specs.Lengths.{most_steps}
use Rattle.lines.specs.Lines.{decimal}
use Rattle.lines.proofs.Width.{width}
use Rattle.encoder.specs.Log.{half_turn}

-- d is how far t is from 0
pub digits_few : (t : ℤ) → nat_abs t ≤ half_turn * most_steps → {d : ℕ} → d ≡ nat_abs t → length (decimal d) ≤ 9
digits_few t few {d} is = width 9 d (omega arith) (omega arith)
