-- The bits of a made run: bit c of a step's word says whether travel is at least limit c.
-- Assumes nothing.
use mathlib.Core.Path.{◌≡◌, ◌∙◌, ap}
use mathlib.Core.List.{List}
use Prim.Native.Nat.{ℕ, ◌≤◌, ◌<◌}
use lib.IntN.{ℤ, pos}
use lib.ListN.{length, get_or}
use Rattle.limits.specs.Limits.{most_conditions}
use Rattle.laws.proofs.Tabulated.{get_d_tabulate}
use Rattle.encoder.specs.Log.{steps_in, travel}
use Rattle.signals.specs.Truth.{bit}
use Rattle.log_words.specs.StepWord.{holds_at, word_by}
use Rattle.log_words.proofs.WordBits.{word_bit}
use Rattle.recorded.specs.Recorded.{run_made}

-- "Condition c holds at a step when travel is at least its own limit", of a made run
pub run_bit :
    (limits : List ℤ) (log : List ℕ) → length limits ≤ most_conditions → (i c : ℕ) → i < steps_in log → c < length limits →
    bit (get_or (run_made limits log) i 0) c ≡ holds_at (get_or limits c (pos 0)) (travel log i)
run_bit limits log few i c l m =
    ap (λ (word : ℕ). bit word c) (get_d_tabulate (λ k. word_by limits (travel log k)) (steps_in log) i 0 l)
    ∙ word_bit (travel log i) limits few c m
