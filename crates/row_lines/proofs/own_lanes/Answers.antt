-- `row_lines::own_lanes` meets its contract: a lane that is kept reads the word, another its own value.
use mathlib.Core.Path.{◌≡◌, refl}
use mathlib.Core.Bool.{Bool, true, false, not, cond, ◌&&◌, ◌||◌, or-false}
use Rattle.signals.specs.Truth.{bit}
use Rattle.lanes.specs.Lanes.{lane}
use Rattle.lanes.proofs.Bitwise.{lane_and, lane_or, lane_not}
use Rattle.row_lines.proofs.own_lanes.Goals as goal

-- one value or the other, as a test
chosen : (keep x y : Bool) → ((keep && x) || (not keep && y)) ≡ cond keep x y
chosen true x y = or-false x
chosen false x y = refl

pub returns : goal.returns
returns c k l =
    let a = c.args in
    let fits = c.ranges.keep.fits in
    simp (lane_or, lane_and, lane_not _ k fits l, c.in_all-recorded.ensures k l, c.bit_of.ensures)
    (chosen (lane a.keep k) (bit a.word a.condition.0) (lane a.flips k))
