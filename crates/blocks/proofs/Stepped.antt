-- The steps of a run that is judged block by block: one block more.
-- Assumes nothing.
use mathlib.Core.Path.{◌≡◌, ◌∙◌, ap}
use mathlib.Core.Bool.{Bool}
use mathlib.Core.List.{List}
use Prim.Native.Nat.{ℕ, ◌+◌, ◌<◌, ◌≤◌}
use native.Mathlib.Nat.{add-zero}
use native.Mathlib.Omega.{arith}
use lib.Dec.{eqb}
use lib.ListN.{length, get_or}
use Rattle.lengths.specs.Lengths.{most_requirement_rows}
use Rattle.rows.specs.Rows.{Row}
use Rattle.signals.specs.Truth.{truth_of}
use Rattle.lanes.specs.Lanes.{lane}
use Rattle.row_lines.specs.RowLines.{line_at}
use Rattle.blocks.specs.Blocks.{lane_reads, ColumnTrue, BlockTrue}

-- the first column of a block is right for the block's first step, if the column after the block is right for the step after it
pub column_more :
    (rows : List Row) (keep flips run after words lines column : List ℕ) {last : Bool} (i steps next : ℕ) →
    length rows ≤ most_requirement_rows → 0 < steps → i + steps ≡ next → next ≤ length run → last ≡ eqb next (length run) → ((t : ℕ) → t < steps → get_or words t 0 ≡ get_or run (i + t) 0) →
    (next < length run → ColumnTrue rows keep flips run next after) → BlockTrue rows keep flips after last words steps lines (length rows) →
    ((r : ℕ) → r < most_requirement_rows → get_or column r 0 ≡ line_at lines r 0) → ColumnTrue rows keep flips run i column
column_more rows keep flips run after words lines column i steps next few some e l ends read right block copied r lr k lk =
    ap (λ (w : ℕ). lane w k) (copied r (omega arith))
    ∙ block run i (omega arith) (rw e ends) read (λ h. rw e (right (omega arith))) r lr 0 some k lk
    ∙ ap (truth_of rows (lane_reads rows keep flips run k) (length run) r) (add-zero i)
