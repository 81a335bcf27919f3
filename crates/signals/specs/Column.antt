-- The column engine, one step at a time. What it computes is proved to be truth; nobody needs to believe this page.
-- Assumes nothing.
use Rattle.std.specs.Prelude.{◌≡◌, Option, Some, None, Bool, true, false, not, cond, ◌&&◌, ◌||◌, List, ℕ, ◌<◌, ◌≤◌, eqb, length, get_or}
use Rattle.lengths.specs.Lengths.{most_table_rows}
use Rattle.rows.specs.declared.Kind.{Kind}
use Rattle.rows.specs.Rows.{Row, kind, first, second, row_at, named}
use Rattle.rows.specs.declared.Kind.TheVariants.{False, True, Condition, Not, And, Or, StrongNext, WeakNext, Until, Release, Finally, Globally, WeakUntil, Unknown}
use Rattle.rows.specs.Checks.{All}
use Rattle.figures.specs.declared.RowNumber.{RowNumber}
use Rattle.signals.specs.declared.Reads.{Reads}
use Rattle.signals.specs.Truth.{sequence_of, Reading, bit, reads_of, flip}

-- own: what a condition reads; a, b: the children now; a-next, next: the first child and the row itself at the next step; last: there is none
abbrev pub cell : Kind → Bool → Bool → Bool → Bool → Bool → Bool → Bool
cell False own a b a_next next last = false
cell True own a b a_next next last = true
cell Condition own a b a_next next last = own
cell Not own a b a_next next last = not a
cell And own a b a_next next last = a && b
cell Or own a b a_next next last = a || b
cell StrongNext own a b a_next next last = not last && a_next
cell WeakNext own a b a_next next last = last || a_next
cell Until own a b a_next next last = b || (a && (not last && next))
cell Release own a b a_next next last = b && (a || (last || next))
cell Finally own a b a_next next last = a || (not last && next)
cell Globally own a b a_next next last = a && (last || next)
cell WeakUntil own a b a_next next last = b || (a && (last || next))
cell Unknown own a b a_next next last = false

-- the value of a row, from the columns of the step in hand and of the step after it
abbrev pub cell_of : Row → Bool → List Bool → List Bool → ℕ → Bool → Bool
cell_of row own here after r last =
    cell (kind row) own (get_or here (first row) false) (get_or here (second row) false) (get_or after (first row) false)
    (get_or after r false) last

-- the first m values of a column are those of their rows
abbrev pub Cells : List Row → (ℕ → Bool) → List Bool → Bool → List Bool → ℕ → Type 0
Cells rows own after last here m = (r : ℕ) → r < m → get_or here r false ≡ cell_of (row_at rows r) (own r) here after r last

-- rows that the engine can take: a column of such a width holds them, and they name lower rows
pub record FitIn (width : ℕ) (rows : List Row) : Type 0 where
  pub few : length rows ≤ width
  pub first_inside : (r : ℕ) → r < length rows → first (row_at rows r) < width
  pub second_inside : (r : ℕ) → r < length rows → second (row_at rows r) < width
  pub lower : (r : ℕ) → r < length rows → All (λ k. k < r) (named (row_at rows r))

abbrev pub Fit : List Row → Type 0
Fit = FitIn most_table_rows

-- what a condition row reads at a step, from its word or, at a flipped row, a value of its own
abbrev pub read_by : ℕ → Option (RowNumber × Bool) → ℕ → ℕ → Bool
read_by word None condition r = bit word condition
read_by word (Some (p, value)) condition r = cond (eqb r p.0) value (bit word condition)

abbrev pub read_of : Reads → ℕ → ℕ → Bool
read_of reads = read_by reads.word reads.own

abbrev pub own_by : List Row → Reads → ℕ → Bool
own_by rows what r = read_of what (first (row_at rows r)) r

abbrev pub reads_at : ℕ → Option RowNumber → List ℕ → ℕ → Reads
reads_at word None sequence i = record { word = word; own = None }
reads_at word (Some p) sequence i = record { word = word; own = Some (p, sequence_of sequence i) }

-- what the condition rows read of a run, one of them perhaps a sequence
abbrev pub reading_of : List Row → List ℕ → Option RowNumber → List ℕ → Reading
reading_of rows run None sequence = reads_of rows run
reading_of rows run (Some p) sequence = flip p.0 (sequence_of sequence) (reads_of rows run)
