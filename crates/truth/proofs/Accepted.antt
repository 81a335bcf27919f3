-- What passed checks give: rows that the engine can take.
-- Assumes nothing.
use mathlib.Core.List.{List}
use Prim.Native.Nat.{ℕ, ◌≤◌}
use native.Mathlib.Omega.{arith}
use lib.ListN.{length}
use Rattle.figures.specs.declared.Refusal.TheVariants.{UnsoundRow}
use Rattle.limits.specs.Limits.{most_conditions}
use Rattle.lengths.specs.Lengths.{most_table_rows}
use Rattle.laws.proofs.Order.{Passes, lowest_passes}
use Rattle.rows.specs.Rows.{Row, row_at}
use Rattle.rows.specs.Checks.{lone_row, row_sound, rows_checked}
use Rattle.row_laws.proofs.Sound.{Sound, sound_lower, sound_inside}
use Rattle.signals.specs.Column.{FitIn, Fit}

-- 8 passed
pub fit_in :
    (width conditions : ℕ) (rows : List Row) → Passes (rows_checked conditions rows) → conditions ≤ width → length rows ≤ width → FitIn width rows
fit_in width conditions rows h c l =
    record {
      few = l;
      first_inside = λ r lr. (sound_inside conditions rows sound r lr width c l).0;
      second_inside = λ r lr. (sound_inside conditions rows sound r lr width c l).1;
      lower = λ r lr. sound_lower conditions rows sound r lr;
    }
  where
    sound : Sound conditions rows
    sound = (lowest_passes (λ r. UnsoundRow (lone_row r)) (length rows) (λ r. row_sound conditions r (row_at rows r))).0 h

pub fit : (conditions : ℕ) (rows : List Row) → Passes (rows_checked conditions rows) → conditions ≤ most_conditions → length rows ≤ most_table_rows → Fit rows
fit conditions rows h c = fit_in most_table_rows conditions rows h (omega arith)
