-- What `take_in` answers and writes is unique: two outcomes that its contract allows are equal.
-- Assumes nothing.
use mathlib.Core.Path.{◌≡◌, sym, ◌∙◌}
use mathlib.Core.List.{List}
use Prim.Native.Nat.{ℕ}
use lib.IntN.{ℤ}
use lib.ListN.{length}
use Rattle.std.specs.Prelude.{Result}
use Rattle.figures.specs.Outputs.{lent_after}
use Rattle.figures.specs.declared.StepCount.{StepCount}
use Rattle.figures.specs.Refusals.{Outcome}
use Rattle.logs.specs.declared.LogRefusal.{LogRefusal}
use Rattle.logs.proofs.Unique.{log_unique}
use Rattle.recorded.specs.Recorded.{run_made, taken_of, taken_says}

pub taken_unique : {a b : Result StepCount LogRefusal} {o : Outcome ℕ} → taken_says a ≡ o → taken_says b ≡ o → a ≡ b
taken_unique = log_unique

-- an answer and the words that it leaves, as the contract has them
module _ (log : List ℕ) (limits : List ℤ) (lent : List ℕ) where
  pub record Allowed (answer : Result StepCount LogRefusal) (after : List ℕ) : Type 0 where
    pub says : taken_says answer ≡ taken_of log limits (length lent)
    pub leaves : after ≡ lent_after (taken_of log limits (length lent)) (run_made limits log) lent

  pub one_outcome : {a b : Result StepCount LogRefusal} {u v : List ℕ} → Allowed a u → Allowed b v → (a ≡ b) × (u ≡ v)
  one_outcome p q = (taken_unique p.says q.says, p.leaves ∙ sym q.leaves)
