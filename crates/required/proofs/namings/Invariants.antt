-- `required::namings` meets its contract: the count is what the rows passed name, at most two a row.
use mathlib.Core.Path.{◌≡◌}
use Prim.Native.Nat.{◌*◌, ◌≤◌}
use Rattle.rows.specs.Checks.{namings}
use Rattle.required.proofs.namings.Given as goal

abbrev pub invariant-loop-row : goal.invariant-loop-row
invariant-loop-row l = (l.count ≡ namings l.rows l.k.0 l.row-index) × (l.count ≤ 2 * l.row-index)
