-- `run_checks::lowest_stray` meets its contract: every step passed is sound, so the first that is not is the lowest.
use native.Mathlib.Omega.{arith}
use Rattle.std.proofs.Common.{rules}
use Rattle.laws.proofs.Lowest.{stopped_at}
use Rattle.run_checks.proofs.lowest_stray.Goals as goal

pub returns-then-not-word_sound : goal.returns-then-not-word_sound
returns-then-not-word_sound c = let q = c.loop-i in stopped_at _ _ q.i q.invariant (omega arith) (search rules)
