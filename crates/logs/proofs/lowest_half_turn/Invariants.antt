-- `logs::lowest_half_turn` meets its contract: no step passed is followed by half a turn, so the first that is is the lowest.
use mathlib.Core.Bool.{Bool, not}
use mathlib.Core.List.{List}
use Prim.Native.Nat.{ℕ}
use lib.Dec.{eqb}
use Rattle.laws.proofs.Lowest.{Holds}
use Rattle.encoder.specs.Log.{difference_in, half_turn}
use Rattle.logs.proofs.lowest_half_turn.Given as goal

abbrev pub tells : List ℕ → ℕ → Bool
tells log k = not (eqb (difference_in log k) half_turn)

abbrev pub invariant-loop-k : goal.invariant-loop-k
invariant-loop-k l = Holds (tells l.log) 0 l.k
