-- `suite::check_requirements` meets its contract: each requirement passed has no refusal, so the first that has one is the first in turn.
use mathlib.Core.Path.{◌≡◌}
use Prim.Native.Nat.{ℕ, ◌<◌}
use Rattle.figures.specs.Refusals.Outcome.{gives}
use Rattle.layout.specs.Layout.{form1}
use Rattle.layout.specs.Checks.{requirement_of_file}
use Rattle.suite.proofs.check_requirements.Given as goal

abbrev pub invariant-loop-q : goal.invariant-loop-q
invariant-loop-q l = (k : ℕ) → k < l.q → requirement_of_file form1 l.file k ≡ gives tt
