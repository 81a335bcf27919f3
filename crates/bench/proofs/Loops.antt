-- The loop over the numbers below a count that sums, and what one number more is to `some` and to a size.
-- Assumes nothing.
use mathlib.Core.Path.{◌≡◌, refl, sym, ◌∙◌, ap, ap₂}
use mathlib.Core.Bool.{Bool, cond, ◌||◌, or-false, or_assoc}
use Prim.Native.Nat.{ℕ, zero, suc, ◌+◌, ◌*◌, ◌≤◌, ◌<◌}
use native.Mathlib.Omega.{arith}
use native.Mathlib.Numerals.{add-one}
use native.Mathlib.Nat.{mul-suc}
use Rattle.figures.specs.Numbers.{below}
use Rattle.signals.specs.Signals.{some}
use Rattle.bench.specs.Coverage.{size, sum}
use Rattle.bench.proofs.Sizes.{size_more}

some_last : (m i : ℕ) (f : ℕ → Bool) → some (suc m) i f ≡ (some m i f || f (i + m))
unfolding some
some_last zero i f = let e : i + 0 ≡ i = omega arith in rw e (or-false (f i))
some_last (suc m) i f =
    let e : suc i + m ≡ i + suc m = omega arith in
    ap (λ (b : Bool). f i || b) (some_last m (suc i) f ∙ ap (λ (k : ℕ). some m (suc i) f || f k) e)
    ∙ sym (or_assoc (f i) (some m (suc i) f) (f (i + suc m)))

-- one number more
pub any_more : (m : ℕ) (f : ℕ → Bool) → some (m + 1) 0 f ≡ (some m 0 f || f m)
any_more m f = let e : 0 + m ≡ m = omega arith in rw (add-one, some_last m 0 f, e)

pub sum_more : (m : ℕ) (f : ℕ → ℕ) → sum (m + 1) f ≡ sum m f + f m
unfolding sum
sum_more m f = rw add-one

-- to count is to sum ones
pub size_sum : (m : ℕ) (f : ℕ → Bool) → size m f ≡ sum m (λ k. cond (f k) 1 0)
unfolding sum below
size_sum zero f = refl
size_sum (suc m) f = size_more m f ∙ ap (λ (n : ℕ). n + cond (f m) 1 0) (size_sum m f)

-- a loop over the numbers below m that has passed those below k, and has the sum of f over them, each at most w
pub record Summed (f : ℕ → ℕ) (w m k total : ℕ) : Type 0 where
  pub within : k ≤ m
  pub is : total ≡ sum k f
  pub few : total ≤ w * k

module _ {f : ℕ → ℕ} {w m : ℕ} where
  pub summed_none : Summed f w m 0 0
  unfolding sum
  summed_none = record { within = omega arith; is = refl; few = omega arith }

  pub summed_more :
      {k total here : ℕ} → Summed f w m k total → k < m → here ≡ f k → here ≤ w → Summed f w m (k + 1) (total + here)
  summed_more {k} {total} h l e few =
      record {
        within = omega arith;
        is = ap₂ ◌+◌ h.is e ∙ sym (sum_more k f);
        few = rw (add-one, mul-suc) (let b = h.few in omega arith);
      }
