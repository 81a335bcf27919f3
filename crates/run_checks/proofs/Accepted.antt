-- What passed checks give: a run with a first step.
-- Assumes nothing.
use mathlib.Core.List.{List}
use Prim.Native.Nat.{ℕ, ◌<◌}
use lib.ListN.{length}
use Rattle.laws.proofs.Order.{Passes, both_pass}
use Rattle.laws.proofs.Passed.{run_passes}
use Rattle.run_checks.specs.RunChecks.{run_checked}

-- 10 passed
pub some_step : (conditions : ℕ) (run : List ℕ) → Passes (run_checked conditions run) → 0 < length run
some_step conditions run h = ((run_passes (length run)).0 ((both_pass _ _).0 h).0).0
