-- `lanes::in_lane` meets its contract: the word shifted down has the lane in its lowest bit.
use mathlib.Core.Path.{refl}
use Rattle.lanes.specs.Lanes.{lane}
use Rattle.lanes.proofs.in_lane.Goals as goal

pub returns : goal.returns
unfolding lane
returns c = refl
