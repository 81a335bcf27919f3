-- `required::lowest_unrequired` meets its contract: every row passed is as required, so the first that is not is the lowest.
use mathlib.Core.Bool.{Bool, ◌&&◌}
use mathlib.Core.List.{List}
use Prim.Native.Nat.{ℕ}
use Rattle.laws.proofs.Lowest.{Holds}
use Rattle.rows.specs.Rows.{Row}
use Rattle.rows.specs.Checks.{named_once, not_over_condition}
use Rattle.required.proofs.lowest_unrequired.Given as goal

abbrev pub required : List Row → ℕ → Bool
required rows r = named_once rows r && not_over_condition rows r

abbrev pub invariant-loop-r : goal.invariant-loop-r
invariant-loop-r l = Holds (required l.rows) 0 l.r
