-- `suite::check_runs` meets its contract: each run passed has no refusal, so the first that has one is the first in turn.
use mathlib.Core.Path.{◌≡◌}
use Prim.Native.Nat.{ℕ, ◌<◌}
use Rattle.figures.specs.Refusals.Outcome.{gives}
use Rattle.layout.specs.Layout.{form1}
use Rattle.layout.specs.Checks.{run_of_file}
use Rattle.suite.proofs.check_runs.Given as goal

abbrev pub invariant-loop-j : goal.invariant-loop-j
invariant-loop-j l = (k : ℕ) → k < l.j → run_of_file form1 l.file k ≡ gives tt
