-- A run that is taken in is one that truth and a suite accept: no 10 and no 11.
-- Assumes nothing.
use Rattle.figures.specs.declared.StepPlace.TheVariants.{Lone, File}
use Rattle.figures.specs.declared.Refusal.TheVariants.{StrayBit}
use mathlib.Core.Path.{◌≡◌, sym, subst}
use mathlib.Core.Bool.{So}
use mathlib.Core.List.{List}
use Prim.Native.Nat.{ℕ}
use native.Mathlib.Omega.{arith}
use lib.IntN.{ℤ}
use lib.ListN.{length, get_or}
use Rattle.figures.specs.Refusals.Outcome.{gives}
use Rattle.laws.proofs.Lowest.{Holds}
use Rattle.laws.proofs.Order.{Passes, both_pass, lowest_passes}
use Rattle.laws.proofs.Passed.{run_passes}
use Rattle.laws.proofs.Tabulated.{length_tabulate, get_d_tabulate}
use Rattle.encoder.specs.Log.{steps_in, travel}
use Rattle.signals.specs.Truth.{word_sound}
use Rattle.run_checks.specs.RunChecks.{run_checked}
use Rattle.layout.specs.Checks.{offset_of, run_from}
use Rattle.log_words.specs.StepWord.{word_by}
use Rattle.log_words.proofs.WordBits.{word_sound_lem}
use Rattle.recorded.specs.Recorded.{run_made, taken_of}
use Rattle.recorded.proofs.Given.{given_steps}

module _ (log : List ℕ) (limits : List ℤ) (room n : ℕ) (taken : taken_of log limits room ≡ gives n) where
  many : length (run_made limits log) ≡ steps_in log
  many = length_tabulate _ (steps_in log)

  clean : Holds (λ i. word_sound (length limits) (get_or (run_made limits log) i 0)) 0 (length (run_made limits log))
  clean i l g =
      subst (λ (word : ℕ). So (word_sound (length limits) word))
      (sym (get_d_tabulate (λ k. word_by limits (travel log k)) (steps_in log) i 0 (omega (arith, many))))
      (word_sound_lem (travel log i) limits ((given_steps log limits room n).0 taken).0.1)

  pub accepted : Passes (run_checked (length limits) (run_made limits log))
  accepted =
      let right = ((given_steps log limits room n).0 taken).1.0.0.1 in
      (both_pass _ _).1
      ((run_passes (length (run_made limits log))).1 (omega (arith, many), omega (arith, many)), (lowest_passes (λ x. StrayBit (Lone record { 0 = x })) _ _).1 clean)

  pub accepted_in_file : (from : ℕ) → Passes (run_from (length limits) from (run_made limits log))
  accepted_in_file from = (lowest_passes (λ x. StrayBit (File record { 0 = offset_of from 4 x })) _ _).1 clean
