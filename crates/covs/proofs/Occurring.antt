-- A requirement has at most as many occurrences as rows.
-- Assumes nothing.
use mathlib.Core.Bool.{Bool}
use mathlib.Core.List.{List}
use mathlib.Core.Path.{ap}
use Prim.Native.Nat.{ℕ, zero, suc, ◌≤◌}
use native.Mathlib.Numerals.{add-one}
use native.Mathlib.Omega.{arith}
use lib.ListN.{length}
use Rattle.figures.specs.Numbers.{below}
use Rattle.laws.proofs.Below.{length_more}
use Rattle.rows.specs.Rows.{Row}
use Rattle.rows.specs.Checks.{condition_at, occurrences}
use Rattle.rows.proofs.Named.{at_most_one}

-- of the numbers below m at most m have a property
few : (f : ℕ → Bool) (m : ℕ) → length (below m f) ≤ m
unfolding below
few f zero = omega arith
few f (suc m) =
    omega (arith, few f m, ap (λ (k : ℕ). length (below k f)) (add-one m), length_more f m, at_most_one (f m))

pub few_occurrences : (rows : List Row) → length (occurrences rows) ≤ length rows
few_occurrences rows = few (condition_at rows) (length rows)
