-- `ways::go_up` meets its contract: each turn passes one row of the way.
use native.Mathlib.Omega.{arith}
use Rattle.ways.proofs.Upward.{upward_next}
use Rattle.ways.proofs.go_up.Goals as goal

pub loop-s-preserved : goal.loop-s-preserved
loop-s-preserved c = upward_next _ _ _ _ _ (omega arith) c.loop-s.invariant c.pass-stand.ensures
