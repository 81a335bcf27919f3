-- `columns::column` meets its contract: the values stored are those of their rows.
use mathlib.Core.Path.{◌≡◌}
use lib.ListN.{length}
use Rattle.lengths.specs.Lengths.{most_table_rows}
use Rattle.signals.specs.Column.{Cells, own_by}
use Rattle.columns.proofs.column.Given as goal

abbrev pub invariant-loop-r : goal.invariant-loop-r
invariant-loop-r l = (length l.here ≡ most_table_rows) × Cells l.rows (own_by l.rows l.reads) l.after l.last l.here l.r
