-- A run's words: what passes in a file, and is as long as a run may be, passes alone.
-- Assumes nothing.
use Rattle.figures.specs.declared.StepPlace.TheVariants.{Lone, File}
use Rattle.figures.specs.declared.Refusal.TheVariants.{StrayBit}
use mathlib.Core.Logic.Iff
use mathlib.Core.Logic.{◌↔◌}
use mathlib.Core.List.{List}
use Prim.Native.Nat.{ℕ}
use lib.ListN.{length}
use Rattle.lengths.specs.Lengths.{most_steps}
use Rattle.laws.proofs.Order.{Passes, both_pass, lowest_passes}
use Rattle.laws.proofs.Passed.{Within, run_passes}
use Rattle.run_checks.specs.RunChecks.{run_checked}
use Rattle.layout.specs.Checks.{offset_of, run_from}

module _ (conditions : ℕ) (run : List ℕ) where
  pub passes_in_file : (from : ℕ) → Passes (run_checked conditions run) ↔ (Within 1 most_steps (length run) × Passes (run_from conditions from run))
  passes_in_file from =
      Iff.trans (both_pass _ _) (Iff.and (run_passes (length run)) (Iff.trans (lowest_passes (λ x. StrayBit (Lone record { 0 = x })) _ _) (Iff.symm (lowest_passes (λ x. StrayBit (File record { 0 = offset_of from 4 x })) _ _))))
