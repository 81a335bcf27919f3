-- The engine's words: many readings of one run at once, each in a bit of a word, its lane. Nobody needs to believe this page.
-- Assumes nothing.
use Rattle.std.specs.Prelude.{Bool, ℕ, ◌^◌, ◌/◌, ◌%◌, eqb}

-- how many lanes a word has
abbrev pub lane_count : ℕ
lane_count = 64

-- lane k of a word
unfoldable pub lane : ℕ → ℕ → Bool
lane w k = eqb (w / 2 ^ k % 2) 1
