-- `suite::lowest_stray_of` meets its contract: every step passed is sound, so the first that is not is the lowest.
use mathlib.Core.Bool.{Bool}
use mathlib.Core.List.{List}
use Prim.Native.Nat.{ℕ}
use lib.ListN.{get_or}
use Rattle.laws.proofs.Lowest.{Holds}
use Rattle.signals.specs.Truth.{word_sound}
use Rattle.layout.specs.Checks.{words_of}
use Rattle.suite.proofs.lowest_stray_of.Given as goal

abbrev pub sound : List ℕ → ℕ → ℕ → Bool
sound body conditions i = word_sound conditions (get_or (words_of body) i 0)

abbrev pub invariant-loop-i : goal.invariant-loop-i
invariant-loop-i l = Holds (sound l.body l.conditions.0) 0 l.i
