-- `recorded::put_words` meets its contract: the words passed are the run's, those after them are as they were, and travel is the log's.
use mathlib.Core.Path.{◌≡◌}
use Prim.Native.Nat.{◌≤◌}
use lib.ListN.{length}
use Rattle.laws.proofs.Parts.{copied}
use Rattle.encoder.specs.Log.{steps_in, travel}
use Rattle.recorded.specs.Recorded.{run_made}
use Rattle.recorded.proofs.put_words.Given as goal

abbrev pub invariant-loop-i : goal.invariant-loop-i
invariant-loop-i l = (steps_in l.log ≤ length l.initial.out) × (l.out ≡ copied (run_made l.limits l.log) l.initial.out 0 l.i) × (l.travel.0 ≡ travel l.log l.i)
