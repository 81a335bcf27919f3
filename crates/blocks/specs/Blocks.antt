-- A block of steps, judged row by row: when the lines of its rows are true of a run. Nobody needs to believe this page.
-- Assumes nothing.
use Rattle.std.specs.Prelude.{◌≡◌, Bool, cond, List, ℕ, ◌+◌, ◌<◌, ◌≤◌, eqb, length, get_or}
use Rattle.rows.specs.Rows.{Row}
use Rattle.signals.specs.Truth.{Reading, own_of, truth_of}
use Rattle.lanes.specs.Lanes.{lane_count, lane}
use Rattle.row_lines.specs.RowLines.{line_at}

-- what row r reads in lane k: the step's word where its keep word has the lane, else its flips word's lane
abbrev pub lane_reads : List Row → List ℕ → List ℕ → List ℕ → ℕ → Reading
lane_reads rows keep flips run k r i = cond (lane (get_or keep r 0) k) (own_of rows (get_or run i 0) r) (lane (get_or flips r 0) k)

-- a column of words has the truth of every row at step i of a run, in every lane
abbrev pub ColumnTrue : List Row → List ℕ → List ℕ → List ℕ → ℕ → List ℕ → Type 0
ColumnTrue rows keep flips run i column =
    (r : ℕ) → r < length rows → (k : ℕ) → k < lane_count →
    lane (get_or column r 0) k ≡ truth_of rows (lane_reads rows keep flips run k) (length run) r i

-- the line of row r has its truth from step i of a run on, in every lane
abbrev pub LineTrue : List Row → List ℕ → List ℕ → List ℕ → ℕ → ℕ → List ℕ → ℕ → Type 0
LineTrue rows keep flips run i steps lines r =
    (t : ℕ) → t < steps → (k : ℕ) → k < lane_count →
    lane (line_at lines r t) k ≡ truth_of rows (lane_reads rows keep flips run k) (length run) r (i + t)

-- whichever run has these words from step i on, and the column after them: the first m lines are right
abbrev pub BlockTrue : List Row → List ℕ → List ℕ → List ℕ → Bool → List ℕ → ℕ → List ℕ → ℕ → Type 0
BlockTrue rows keep flips after last words steps lines m =
    (run : List ℕ) (i : ℕ) → i + steps ≤ length run → last ≡ eqb (i + steps) (length run) →
    ((t : ℕ) → t < steps → get_or words t 0 ≡ get_or run (i + t) 0) →
    (i + steps < length run → ColumnTrue rows keep flips run (i + steps) after) →
    (r : ℕ) → r < m → LineTrue rows keep flips run i steps lines r
