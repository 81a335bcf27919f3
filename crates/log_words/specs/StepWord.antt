-- One step's word of a recorded run: document 02, wish 5. Limits and travel are encoder counts; nothing here is in millimetres or inches.
-- Assumes nothing.
use Rattle.std.specs.Prelude.{Bool, cond, List, [], ◌∷◌, ℕ, ◌+◌, ◌*◌, ℤ}
use Rattle.std.specs.Int.Signed.{le_z}

-- "Condition c holds at a step when travel is at least its own signed 32-bit limit"
abbrev pub holds_at : ℤ → ℤ → Bool
holds_at limit travel = le_z limit travel

-- "a step is a 32-bit word, bit c holding condition c": the word of a step, by the limits and its travel
unfoldable pub word_by : List ℤ → ℤ → ℕ
word_by [] travel = 0
word_by (limit ∷ limits) travel = cond (holds_at limit travel) 1 0 + 2 * word_by limits travel
