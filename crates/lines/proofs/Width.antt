-- How many digits a number takes: at least one, and at most so many below that power of ten.
-- Assumes nothing.
use mathlib.Core.Path.{◌≡◌, ◌∙◌, ap}
use mathlib.Core.List.{[], ◌∷◌}
use Prim.Native.Nat.{ℕ, zero, suc, ◌+◌, ◌/◌, ◌%◌, ◌^◌, ◌≤◌, ◌<◌}
use native.Mathlib.Nat.{pow-suc}
use native.Mathlib.Decide.{dec_lt}
use native.Mathlib.Omega.{arith}
use lib.ListN.{length, length-append}
use Rattle.lines.specs.Lines.{digit, decimal}
use Rattle.lines.proofs.Decimal.{one_digit, more_digits}

pub width_1 : (n : ℕ) → n < 10 → length (decimal n) ≡ 1
width_1 n l = ap length (one_digit n l)

pub width_more : (n : ℕ) → 10 ≤ n → length (decimal n) ≡ length (decimal (n / 10)) + 1
width_more n l = ap length (more_digits n l) ∙ length-append (decimal (n / 10)) (digit (n % 10) ∷ [])

pub width_some : (n : ℕ) → 0 < length (decimal n)
width_some n = go (dec_lt n 10)
  where
    go : Dec (n < 10) → 0 < length (decimal n)
    go (yes s) = omega (arith, width_1 n s)
    go (no s) = omega (arith, width_more n (omega arith))

pub width : (k n : ℕ) → n < 10 ^ k → 0 < k → length (decimal n) ≤ k
width zero n l p = absurd (omega arith)
width (suc zero) n l p = omega (arith, width_1 n l)
width (suc (suc k)) n l p = go (dec_lt n 10) (width (suc k) (n / 10))
  where
    go : Dec (n < 10) → (n / 10 < 10 ^ suc k → 0 < suc k → length (decimal (n / 10)) ≤ suc k) → length (decimal n) ≤ suc (suc k)
    go (yes s) ih = omega (arith, width_1 n s)
    go (no s) ih =
        let e = pow-suc 10 (suc k) in
        omega (arith, width_more n (omega arith), ih (omega arith) (omega arith))

pub width_2 : (n : ℕ) → n < 100 → length (decimal n) ≤ 2
width_2 n l = width 2 n l (omega arith)

pub width_3 : (n : ℕ) → n < 1000 → length (decimal n) ≤ 3
width_3 n l = width 3 n l (omega arith)

-- any number that a machine word holds
pub width_20 : (n : ℕ) → n < 2 ^ 64 → length (decimal n) ≤ 20
width_20 n l = width 20 n (omega arith) (omega arith)
