-- `columns::kinds_of` meets its contract: the kinds passed are those of their rows.
use mathlib.Core.Path.{◌≡◌}
use Prim.Native.Nat.{ℕ, ◌<◌}
use lib.ListN.{length, get_or}
use Rattle.lengths.specs.Lengths.{most_table_rows}
use Rattle.rows.specs.declared.Kind.TheVariants.{False}
use Rattle.rows.specs.Rows.{kind, row_at}
use Rattle.columns.proofs.kinds_of.Given as goal

abbrev pub invariant-loop-r : goal.invariant-loop-r
invariant-loop-r l = (length l.kinds ≡ most_table_rows) × ((k : ℕ) → k < l.r → get_or l.kinds k False ≡ kind (row_at l.rows k))
