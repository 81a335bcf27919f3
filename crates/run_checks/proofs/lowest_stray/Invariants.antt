-- `run_checks::lowest_stray` meets its contract: every step passed is sound, so the first that is not is the lowest.
use mathlib.Core.Bool.{Bool}
use mathlib.Core.List.{List}
use Prim.Native.Nat.{ℕ}
use lib.ListN.{get_or}
use Rattle.laws.proofs.Lowest.{Holds}
use Rattle.signals.specs.Truth.{word_sound}
use Rattle.run_checks.proofs.lowest_stray.Given as goal

abbrev pub sound : List ℕ → ℕ → ℕ → Bool
sound run conditions i = word_sound conditions (get_or run i 0)

abbrev pub invariant-loop-i : goal.invariant-loop-i
invariant-loop-i l = Holds (sound l.run l.conditions.0) 0 l.i
