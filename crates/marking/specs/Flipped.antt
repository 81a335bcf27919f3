-- How the marks come of one pass over a run: which lane flips which occurrence. Nobody needs to believe this page.
-- Assumes nothing.
use Rattle.std.specs.Prelude.{◌≡◌, not, ◌&&◌, List, ℕ, ◌<◌, eqb, length, get_or}
use Rattle.rows.specs.Rows.{Row}
use Rattle.rows.specs.Checks.{condition_at}
use Rattle.coverage.specs.Coverage.{witness_bit}
use Rattle.lanes.specs.Lanes.{lane_count, lane}
use Rattle.bench.specs.Coverage.{size}

-- the number of the occurrence in row r: as many condition rows stand below it
abbrev pub number_in : List Row → ℕ → ℕ
number_in rows r = size r (condition_at rows)

-- the last lane, which no occurrence has: the run as recorded
abbrev pub recorded : ℕ
recorded = 63

-- a row that is an occurrence is flipped in the lane of its number; in every other lane, as every other row, it reads the run
abbrev pub Keeps : List Row → List ℕ → ℕ → Type 0
Keeps rows keep m =
    (r : ℕ) → r < m → (k : ℕ) → k < lane_count → lane (get_or keep r 0) k ≡ not (condition_at rows r && eqb k (number_in rows r))

-- what a flipped row reads: the value that the witness has at every step
abbrev pub Witnesses : List Row → List ℕ → ℕ → Type 0
Witnesses rows flips m = (r : ℕ) → r < m → (k : ℕ) → k < lane_count → lane (get_or flips r 0) k ≡ witness_bit rows r

-- the words that a requirement's rows are judged with
pub record Flips (rows : List Row) (keep flips : List ℕ) : Type 0 where
  pub keeps : Keeps rows keep (length rows)
  pub witnesses : Witnesses rows flips (length rows)
