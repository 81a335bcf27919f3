-- `row_checks::lowest_unsound` meets its contract: every row passed is sound, so the first that is not is the lowest.
use mathlib.Core.Bool.{Bool}
use mathlib.Core.List.{List}
use Prim.Native.Nat.{ℕ}
use Rattle.laws.proofs.Lowest.{Holds}
use Rattle.rows.specs.Rows.{Row, row_at}
use Rattle.rows.specs.Checks.{row_sound}
use Rattle.row_checks.proofs.lowest_unsound.Given as goal

abbrev pub sound : List Row → ℕ → ℕ → Bool
sound rows conditions r = row_sound conditions r (row_at rows r)

abbrev pub invariant-loop-r : goal.invariant-loop-r
invariant-loop-r l = Holds (sound l.rows l.conditions.0) 0 l.r
