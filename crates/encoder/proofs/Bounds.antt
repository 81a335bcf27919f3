-- How far travel can lie from 0: half a turn a step, so never past the range of its type.
-- Assumes nothing.
use Rattle.std.proofs.Common.{ℕ, zero, suc, ◌*◌, ◌≤◌, List, nat_abs, arith, w32, SFits}
use Rattle.lengths.specs.Lengths.{most_steps}
use Rattle.encoder.specs.Log.{half_turn, signed, difference_in, travel}
use Rattle.encoder.proofs.Sides.{mag_size, size_sum}
use Rattle.encoder.proofs.Readings.{wrapped_less, read_size}

module _ (log : List ℕ) where
  pub travel_size : (k : ℕ) → nat_abs (travel log k) ≤ half_turn * k
  unfolding travel
  travel_size zero = omega arith
  travel_size (suc k) =
      let s = travel_size k in
      omega (arith, size_sum (travel log k) (signed (difference_in log k)), read_size (difference_in log k) (wrapped_less _ _))

  pub travel_fits : (k : ℕ) → k ≤ most_steps → SFits w32 (travel log k)
  travel_fits k l = record { sfits = omega (arith, mag_size (travel log k), travel_size k) }
