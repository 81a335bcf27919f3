-- `lanes::all_but` meets its contract: the complement of one bit.
use mathlib.Core.Path.{◌∙◌, ap}
use mathlib.Core.Bool.{not}
use Prim.Native.Nat.{ℕ, ◌*◌, ◌^◌, ◌%◌}
use native.Mathlib.Nat.{mod-lt}
use native.Mathlib.Omega.{arith}
use lib.Pow.{pow_pos, shl_exact}
use Rattle.lanes.specs.Lanes.{lane_count, lane}
use Rattle.lanes.proofs.Bitwise.{lane_not, lane_one}
use Rattle.lanes.proofs.all_but.Goals as goal

pub returns : goal.returns
returns c k l =
    let at = c.args.at.0 in
    lane_not (1 * 2 ^ at % 2 ^ lane_count) k (mod-lt (1 * 2 ^ at) (pow_pos lane_count)) l
    ∙ ap (λ (w : ℕ). not (lane w k)) (shl_exact 1 at lane_count (omega arith) (omega arith))
    ∙ ap not (lane_one at k)
