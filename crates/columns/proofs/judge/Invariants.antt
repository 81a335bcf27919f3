-- `columns::judge` meets its contract: after each turn the later column is right for the step in hand.
use mathlib.Core.Path.{◌≡◌}
use Prim.Native.Nat.{◌<◌}
use lib.ListN.{length}
use Rattle.lengths.specs.Lengths.{most_table_rows}
use Rattle.signal_laws.proofs.Columns.{Right}
use Rattle.signals.specs.Column.{reading_of}
use Rattle.columns.proofs.judge.Given as goal

abbrev pub invariant-loop-i : goal.invariant-loop-i
invariant-loop-i l = (l.steps ≡ length l.run) × (length l.here ≡ most_table_rows) × (l.i < l.steps → Right l.rows (reading_of l.rows l.run l.flip l.sequence) l.steps l.i l.after)
