-- The decimal digits of a number: one digit below ten, and else those of its tenth and one more; the kit's digits are these.
-- Assumes nothing.
use mathlib.Core.Path.{◌≡◌, sym, ◌∙◌, ap}
use mathlib.Core.List.{List, [], ◌∷◌, ◌++◌}
use Prim.Native.Nat.{ℕ, zero, suc, ◌-◌, ◌/◌, ◌%◌, ◌^◌, ◌≤◌, ◌<◌}
use native.Mathlib.Nat.{pow-suc, mod-eq_of_lt, one-le-pow}
use native.Mathlib.Decide.{dec_lt}
use native.Mathlib.Omega.{arith}
use borrow.Author.Tests.{lt-ltb, le-ltb}
use Rattle.io.specs.Digits.{hex_digit_ascii, last_digits, IsDigitCount}
use Rattle.lines.specs.Lines.{digit, decimal_by, decimal}

-- more digits allowed than are needed change nothing
enough : (a b n : ℕ) → n < a → n < b → decimal_by a n ≡ decimal_by b n
unfolding decimal_by
enough zero b n l m = absurd (omega arith)
enough (suc a) zero n l m = absurd (omega arith)
enough (suc a) (suc b) n l m = go (dec_lt n 10) (enough a b (n / 10))
  where
    go :
        Dec (n < 10) → (n / 10 < a → n / 10 < b → decimal_by a (n / 10) ≡ decimal_by b (n / 10)) →
        decimal_by (suc a) n ≡ decimal_by (suc b) n
    go (yes s) ih = rw (lt-ltb n 10 s)
    go (no s) ih =
        rw (le-ltb n 10 (omega arith)) (ap (λ (t : List ℕ). t ++ (digit (n % 10) ∷ [])) (ih (omega arith) (omega arith)))

pub one_digit : (n : ℕ) → n < 10 → decimal n ≡ digit n ∷ []
unfolding decimal decimal_by
one_digit n l = rw (lt-ltb n 10 l)

pub more_digits : (n : ℕ) → 10 ≤ n → decimal n ≡ decimal (n / 10) ++ (digit (n % 10) ∷ [])
unfolding decimal decimal_by
more_digits n l =
    rw (le-ltb n 10 l) (ap (λ (t : List ℕ). t ++ (digit (n % 10) ∷ [])) (enough n (suc (n / 10)) (n / 10) (omega arith) (omega arith)))

-- what holds of the numbers of one digit, and of a number where it holds of its tenth, holds of all
module _ (P : ℕ → Type 0) (one : (n : ℕ) → n < 10 → P n) (more : (n : ℕ) → 10 ≤ n → P (n / 10) → P n) where
  within : (most n : ℕ) → n < most → P n
  within zero n l = absurd (omega arith)
  within (suc most) n l = go (dec_lt n 10) (within most (n / 10))
    where
      go : Dec (n < 10) → (n / 10 < most → P (n / 10)) → P n
      go (yes s) ih = one n s
      go (no s) ih = more n (omega arith) (ih (omega arith))

  pub by_digits : (n : ℕ) → P n
  by_digits n = within (suc n) n (omega arith)

-- a digit below ten is written as itself
glyph_digit : (d : ℕ) → d < 10 → hex_digit_ascii d ≡ digit d
glyph_digit d l = rw (lt-ltb d 10 l)

-- the fewest digits that hold a number, as the kit writes them
pub fewest_decimal : (k n : ℕ) → IsDigitCount 10 1 n k → last_digits 10 k n ≡ decimal n
fewest_decimal zero n f = absurd (omega arith)
fewest_decimal (suc zero) n f =
    let l : n < 10 = f.1 in
    rw (mod-eq_of_lt l, glyph_digit n l) (sym (one_digit n l))
fewest_decimal (suc (suc k)) n f =
    let less : suc (suc k) - 1 ≡ suc k = omega arith in
    let least : suc k - 1 ≡ k = omega arith in
    let big : 10 ^ suc k ≤ n = rw less at (f.2 (omega arith)) in
    let ten = pow-suc 10 k in
    let hundred = pow-suc 10 (suc k) in
    let some = one-le-pow k 10 (omega arith) in
    let fewer : IsDigitCount 10 1 (n / 10) (suc k) = (omega arith, omega arith, λ l. rw least (omega arith)) in
    ap (λ (t : List ℕ). t ++ (hex_digit_ascii (n % 10) ∷ [])) (fewest_decimal (suc k) (n / 10) fewer)
    ∙ ap (λ (d : ℕ). decimal (n / 10) ++ (d ∷ [])) (glyph_digit (n % 10) (omega arith))
    ∙ sym (more_digits n (omega arith))
