-- A step's word by its limits: one limit more, and that it fits so many bits as there are limits.
-- Assumes nothing.
use mathlib.Core.Path.{◌≡◌, refl, ◌∙◌, ap, ap₂}
use mathlib.Core.Bool.{Bool, true, false, cond}
use mathlib.Core.List.{List, [], ◌∷◌}
use Prim.Native.Nat.{ℕ, suc, ◌+◌, ◌-◌, ◌*◌, ◌^◌, ◌≤◌, ◌<◌}
use native.Mathlib.Omega.{arith}
use native.Mathlib.Nat.{pow-suc, lt_of_lt_of_le}
use lib.IntN.{ℤ, pos}
use lib.ListN.{length, get_or, drop, drop_of_length-le, length-drop}
use lib.Pow.{pow_mono}
use lib.Seq.{drop-cons}
use mir.Val.{bool_byte}
use Rattle.log_words.specs.StepWord.{holds_at, word_by}

pub bit_less : (b : Bool) → cond b 1 0 < 2
bit_less true = omega arith
bit_less false = omega arith

pub bit_made : (b : Bool) → bool_byte b ≡ cond b 1 0
bit_made true = refl
bit_made false = refl

module _ (travel : ℤ) where
  pub word_none : (limits : List ℤ) → 0 ≡ word_by (drop (length limits) limits) travel
  unfolding word_by
  word_none limits = rw (drop_of_length-le limits {i = length limits} (omega arith))

  word_more :
      (limits : List ℤ) (c : ℕ) → c < length limits →
      cond (holds_at (get_or limits c (pos 0)) travel) 1 0 + 2 * word_by (drop (suc c) limits) travel ≡ word_by (drop c limits) travel
  unfolding word_by
  word_more limits c l = rw (drop-cons limits c (pos 0) l)

  pub word_less : (limits : List ℤ) → word_by limits travel < 2 ^ length limits
  unfolding word_by
  word_less [] = omega arith
  word_less (limit ∷ limits) =
      let h = word_less limits in
      omega (arith, bit_less (holds_at limit travel), pow-suc 2 (length limits))

  pub word_fits : (limits : List ℤ) (bits : ℕ) → length limits ≤ bits → word_by limits travel < 2 ^ bits
  word_fits limits bits l = lt_of_lt_of_le (word_less limits) (pow_mono l)

  -- a turn of the loop that goes from the last limit to the first
  module _ (limits : List ℤ) (c word bit : ℕ) (left : 0 < c) (inside : c ≤ length limits) (so_far : word ≡ word_by (drop c limits) travel)
      (is : bit ≡ cond (holds_at (get_or limits (c - 1) (pos 0)) travel) 1 0) where
    pub turn : bit + 2 * word ≡ word_by (drop (c - 1) limits) travel
    turn =
        let next : c ≡ suc (c - 1) = omega arith in
        ap₂ (λ (a b : ℕ). a + 2 * b) is (so_far ∙ ap (λ (k : ℕ). word_by (drop k limits) travel) next)
        ∙ word_more limits (c - 1) (omega arith)

    pub turn_fits : length limits ≤ 32 → bit + 2 * word < 2 ^ 32
    turn_fits few =
        omega (arith, turn, word_fits (drop (c - 1) limits) 32 (omega (arith, length-drop (c - 1) limits)))
