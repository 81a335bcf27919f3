-- The engine's tables: truth values by row and column, in one array. Nobody needs to believe this page.
-- Assumes nothing.
use Rattle.std.specs.Prelude.{◌≡◌, Bool, false, ◌&&◌, List, ℕ, ◌+◌, ◌*◌, ◌<◌, length, get_or}
use Rattle.limits.specs.Limits.{most_runs}
use Rattle.lengths.specs.Lengths.{most_requirement_rows}
use Rattle.rows.specs.Rows.{Row}
use Rattle.rows.specs.Checks.{condition_at}
use Rattle.signals.specs.Signals.{some}
use Rattle.signals.specs.Truth.{reads_of}
use Rattle.coverage.specs.Coverage.{covered}
use Rattle.bench.specs.Coverage.{Bench, mattered_of, mattered}

-- the value in a row and column of a table of such a width
abbrev pub cell_of : ℕ → List Bool → ℕ → ℕ → Bool
cell_of width table r c = get_or table (width * r + c) false

-- a cell of a table of such a width has a value, and no others changed
pub record CellSet (width r c : ℕ) (value : Bool) (before after : List Bool) : Type 0 where
  pub here : cell_of width after r c ≡ value
  pub others : (s i : ℕ) → i < width → (s ≡ r → i ≡ c → ⊥) → cell_of width after s i ≡ cell_of width before s i

-- of one requirement: whether the pair of row p and run j is marked
abbrev pub marked : List Bool → ℕ → ℕ → Bool
marked = cell_of most_runs

-- of a suite: whether row p of requirement q is noted as an occurrence that mattered
abbrev pub noted : List Bool → ℕ → ℕ → Bool
noted = cell_of most_requirement_rows

-- the mark of row p for a run: an occurrence in a covered pair
abbrev pub mark_of : List Row → List ℕ → ℕ → Bool
mark_of rows run p = condition_at rows p && covered rows (reads_of rows run) (length run) p

-- the marks of the runs below m are right
abbrev pub Marked : List Row → (ℕ → List ℕ) → ℕ → List Bool → Type 0
Marked rows words m marks = (p j : ℕ) → p < length rows → j < m → marked marks p j ≡ mark_of rows (words j) p

-- the marks of run j are set, and no others changed
pub record ColumnMarked (rows : List Row) (run : List ℕ) (j : ℕ) (before after : List Bool) : Type 0 where
  pub here : (p : ℕ) → p < length rows → marked after p j ≡ mark_of rows run p
  pub others : (p i : ℕ) → i < most_runs → (i ≡ j → ⊥) → marked after p i ≡ marked before p i

-- the notes of requirement q say of each row below m whether one of its marks is set, and no others changed
pub record RowNoted (marks : List Bool) (runs q m : ℕ) (before after : List Bool) : Type 0 where
  pub here : (p : ℕ) → p < m → noted after q p ≡ some runs 0 (marked marks p)
  pub others : (r p : ℕ) → p < most_requirement_rows → (r ≡ q → ⊥) → noted after r p ≡ noted before r p

-- the notes of requirement q say of each of its rows whether it is an occurrence that mattered, and no others changed
pub record RequirementNoted (rows : List Row) (runs : ℕ) (words : ℕ → List ℕ) (q : ℕ) (before after : List Bool) : Type 0 where
  pub here : (p : ℕ) → p < length rows → noted after q p ≡ mattered_of rows runs words p
  pub others : (r p : ℕ) → p < most_requirement_rows → (r ≡ q → ⊥) → noted after r p ≡ noted before r p

-- the notes of the requirements below m are right
abbrev pub SuiteNoted : Bench → ℕ → List Bool → Type 0
SuiteNoted b m notes = (q p : ℕ) → q < m → p < length (b.rows q) → noted notes q p ≡ mattered b q p
