-- `answering::lent_space` meets its contract: an array of 262144 zeros.
use mathlib.Core.Path.{sym}
use Prim.Native.Nat.{ℕ}
use lib.ListN.{length-replicate}
use Rattle.answering.proofs.lent_space.Goals as goal

pub returns : goal.returns
returns c = sym (length-replicate {A = ℕ} 262144 0)
