-- A loop that writes a run's words to the front of lent ones: one word more, and all of them.
-- Assumes nothing.
use mathlib.Core.Path.{◌≡◌, sym, ◌∙◌, ap, ap₂}
use mathlib.Core.List.{List, ◌++◌}
use Prim.Native.Nat.{ℕ, ◌+◌, ◌≤◌, ◌<◌}
use native.Mathlib.Omega.{arith}
use lib.IntN.{ℤ}
use lib.ListN.{length, drop, set}
use lib.Seq.{take_all}
use Rattle.laws.proofs.Parts.{copied, copy_more, length_copied}
use Rattle.laws.proofs.Tabulated.{length_tabulate, get_d_tabulate}
use Rattle.encoder.specs.Log.{steps_in, travel}
use Rattle.log_words.specs.StepWord.{word_by}
use Rattle.recorded.specs.Recorded.{run_made}

module _ (limits : List ℤ) (log lent : List ℕ) (fits : steps_in log ≤ length lent) where
  -- the lent words after so many turns
  abbrev pub filled : ℕ → List ℕ
  filled = copied (run_made limits log) lent 0

  pub length_made : length (run_made limits log) ≡ steps_in log
  length_made = length_tabulate _ (steps_in log)

  module _ (i : ℕ) {out : List ℕ} (is : out ≡ filled i) where
    pub length_out : i ≤ steps_in log → length out ≡ length lent
    length_out l =
        ap length is
        ∙ length_copied (run_made limits log) lent 0 i (omega (arith, length_made)) (omega (arith, length_made))

    pub word_put :
        {word : ℕ} {gone : ℤ} → i < steps_in log → gone ≡ travel log i → word ≡ word_by limits gone → set out i word ≡ filled (i + 1)
    word_put {word} {gone} l there w =
        ap₂ (λ (o : List ℕ) (x : ℕ). set o i x) is
        (w ∙ ap (word_by limits) there ∙ sym (get_d_tabulate (λ k. word_by limits (travel log k)) (steps_in log) i 0 l))
        ∙ copy_more (run_made limits log) lent 0 i (omega (arith, length_made)) (omega (arith, length_made))

    pub all_put : i ≡ steps_in log → out ≡ run_made limits log ++ drop (steps_in log) lent
    all_put e =
        is
        ∙ ap₂ (λ (front : List ℕ) (k : ℕ). front ++ drop k lent) (take_all i (run_made limits log) (omega (arith, length_made))) e
