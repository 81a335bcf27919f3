-- The numbers of the pairs of a requirement, covered or not: how many there are, and that the two parts of each are within their counts.
-- Assumes nothing.
use mathlib.Core.Path.{◌≡◌}
use mathlib.Core.List.{List}
use Prim.Native.Nat.{ℕ, zero, suc, ◌*◌, ◌/◌, ◌%◌, ◌≤◌, ◌<◌}
use native.Mathlib.Nat.{mul_comm, mul-le-mul, mod-lt, div-lt_iff_lt-mul}
use native.Mathlib.Omega.{arith}
use lib.ListN.{length}
use Rattle.limits.specs.Limits.{most_runs}
use Rattle.rows.specs.Rows.{Row}
use Rattle.rows.specs.Checks.{occurrences}
use Rattle.covs.proofs.Occurring.{few_occurrences}

pub few_pairs : (rows : List Row) {occs runs : ℕ} → occs ≡ length (occurrences rows) → runs ≤ most_runs → occs * runs ≤ length rows * most_runs
few_pairs rows {occs} e l = let few : occs ≤ length rows = omega (arith, few_occurrences rows) in mul-le-mul few l

parts_by : (a b n : ℕ) → n < a * b → (n / b < a) × (n % b < b)
parts_by a zero n l = absurd (omega arith)
parts_by a (suc b) n l = let some : 0 < suc b = omega arith in ((div-lt_iff_lt-mul some).1 l, mod-lt n some)

-- whichever part goes first: so a program that takes the parts the other way round stays within the counts, and fails for its order alone
pub parts_within : (a b : ℕ) {n : ℕ} → n < a * b → ((n / b < a) × (n % b < b)) × ((n / a < b) × (n % a < a))
parts_within a b {n} l = (parts_by a b n l, parts_by b a n (rw mul_comm at l))
