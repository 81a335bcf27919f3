-- Numbers in bytes: document 01, "The suite file".
-- Assumes nothing.
use Rattle.std.specs.Prelude.{List, [], ◌∷◌, ℕ, zero, suc, ◌+◌, ◌*◌, ◌/◌, ◌%◌, get_or}

-- "Two-byte and four-byte numbers are little-endian": a number in so many bytes, and the number that stands at a place
abbrev pub little : ℕ → ℕ → List ℕ
little zero n = []
little (suc w) n = n % 256 ∷ little w (n / 256)

abbrev pub little_at : ℕ → List ℕ → ℕ → ℕ
little_at zero bytes at = 0
little_at (suc w) bytes at = get_or bytes at 0 + 256 * little_at w bytes (at + 1)
