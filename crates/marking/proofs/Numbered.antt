-- The numbers of a requirement's occurrences: each has its own, below their count.
-- Assumes nothing.
use mathlib.Core.Path.{◌≡◌, refl, ap}
use mathlib.Core.Bool.{Bool, true, false, So, cond}
use mathlib.Core.List.{List}
use Prim.Native.Nat.{ℕ, ◌+◌, ◌<◌}
use native.Mathlib.Omega.{arith}
use native.Mathlib.Decide.{dec_lt}
use lib.ListN.{length, length-append}
use mir.Val.{bool_byte}
use Rattle.figures.specs.Numbers.{below}
use Rattle.laws.proofs.Below.{length_more, below_front}
use Rattle.rows.specs.Rows.{Row}
use Rattle.rows.specs.Checks.{condition_at}
use Rattle.bench.specs.Coverage.{size}
use Rattle.marking.specs.Flipped.{number_in}

-- a number with the property counts from then on
counts : (f : ℕ → Bool) (r m : ℕ) → r < m → So (f r) → size r f < size m f
counts f r m l is =
    let rest = below_front f (r + 1) m (omega arith) in
    let one : ◌≡◌ {A = ℕ} (cond (f r) 1 0) 1 = ap (λ (b : Bool). cond b 1 0) is in
    omega (arith, ap length rest.1, length-append (below (r + 1) f) rest.0, length_more f r)

-- what a test of the next number adds to the count
pub size_with : (m : ℕ) (f : ℕ → Bool) {b : Bool} → b ≡ f m → size m f + bool_byte b ≡ size (m + 1) f
size_with m f {b} e = omega (arith, length_more f m, ap {B = ℕ} (λ (t : Bool). cond t 1 0) e, as_number b)
  where
    as_number : (b : Bool) → bool_byte b ≡ cond b 1 0
    as_number true = refl
    as_number false = refl

module _ (rows : List Row) where
  pub number_below : (r m : ℕ) → r < m → So (condition_at rows r) → number_in rows r < size m (condition_at rows)
  number_below = counts (condition_at rows)

  pub numbers_apart :
      (r p : ℕ) → So (condition_at rows r) → So (condition_at rows p) → (r ≡ p → ⊥) → number_in rows p ≡ number_in rows r → ⊥
  numbers_apart r p is_r is_p d e = go (dec_lt r p)
    where
      go : Dec (r < p) → ⊥
      go (yes l) = omega (arith, number_below r p l is_r)
      go (no l) = omega (arith, number_below p r (omega arith) is_p)
