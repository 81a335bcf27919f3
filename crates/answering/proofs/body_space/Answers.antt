-- `answering::body_space` meets its contract: an array of 70000 zeros.
use mathlib.Core.Path.{sym}
use Prim.Native.Nat.{ℕ}
use lib.ListN.{length-replicate}
use Rattle.answering.proofs.body_space.Goals as goal

pub returns : goal.returns
returns c = sym (length-replicate {A = ℕ} 70000 0)
