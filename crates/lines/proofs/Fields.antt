-- How long a line is, field by field, and a text with one field more.
-- Assumes nothing.
use mathlib.Core.Path.{◌≡◌}
use mathlib.Core.List.{List, [], ◌∷◌, ◌++◌}
use Prim.Native.Nat.{ℕ, ◌+◌}
use native.Mathlib.Omega.{arith}
use lib.ListN.{length, length-append}
use Rattle.lines.specs.Lines.{space, line_feed, line}

-- a field that others follow
module _ (f g : List ℕ) (fs : List (List ℕ)) where
  pub length_more : length (line (f ∷ g ∷ fs)) ≡ length f + 1 + length (line (g ∷ fs))
  length_more = omega (arith, length-append f (space ∷ line (g ∷ fs)))

-- the last field
pub length_last : (f : List ℕ) → length (line (f ∷ [])) ≡ length f + 1
length_last f = length-append f (line_feed ∷ [])

-- the length of a text with one field and one byte more
pub length_put : (t f : List ℕ) (byte : ℕ) → length (t ++ (f ++ (byte ∷ []))) ≡ length t + (length f + 1)
length_put t f byte = omega (arith, length-append t (f ++ (byte ∷ [])), length-append f (byte ∷ []))
