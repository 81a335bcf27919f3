-- An integer by its two sides, how far above and how far below 0 it lies, so that facts on sums and orders are facts on numbers.
-- Assumes nothing.
use Rattle.std.proofs.Common.{◌≡◌, ℕ, zero, suc, ◌+◌, ◌*◌, ◌<◌, ◌≤◌, ℤ, pos, negsuc, ◌+ℤ◌, ◌*ℤ◌, neg_ℤ, nat_abs, refl, ap, mul-zero, arith, le-ltb, lt-ltb, le-leb, leb-true}
use mathlib.Core.Bool.{So, false≢true}
use native.Mathlib.Decide.{dec_lt}
use lib.IntN.{sub_ℕ}
use lib.Signed.{le_z, mag}

abbrev pub up : ℤ → ℕ
up (pos n) = n
up (negsuc n) = 0

abbrev pub down : ℤ → ℕ
down (pos n) = 0
down (negsuc n) = suc n

-- an integer is told by its sides
pub same : (x y : ℤ) → up x + down y ≡ up y + down x → x ≡ y
same (pos m) (pos n) e = ap pos (omega arith)
same (pos m) (negsuc n) e = absurd (omega arith)
same (negsuc m) (pos n) e = absurd (omega arith)
same (negsuc m) (negsuc n) e = ap negsuc (omega arith)

-- the sides of a difference of two numbers, of a sum, of a negative, of a multiple
minus : (a b : ℕ) → up (sub_ℕ a b) + b ≡ a + down (sub_ℕ a b)
minus a b = go (dec_lt a b)
  where
    go : Dec (a < b) → up (sub_ℕ a b) + b ≡ a + down (sub_ℕ a b)
    go (yes l) = rw (lt-ltb a b l) (omega arith)
    go (no l) = rw (le-ltb a b (omega arith)) (omega arith)

pub sum : (x y : ℤ) → up (x +ℤ y) + (down x + down y) ≡ up x + up y + down (x +ℤ y)
sum (pos a) (pos b) = omega arith
sum (pos a) (negsuc b) = let h = minus a (suc b) in omega arith
sum (negsuc a) (pos b) = let h = minus b (suc a) in omega arith
sum (negsuc a) (negsuc b) = omega arith

pub negative : (z : ℤ) → (up (neg_ℤ z) ≡ down z) × (down (neg_ℤ z) ≡ up z)
negative (pos zero) = (refl, refl)
negative (pos (suc n)) = (refl, refl)
negative (negsuc n) = (refl, refl)

pub multiple : (t : ℕ) (z : ℤ) → (up (pos t *ℤ z) ≡ t * up z) × (down (pos t *ℤ z) ≡ t * down z)
multiple t (pos n) = (refl, rw mul-zero)
multiple t (negsuc n) = let h = negative (pos (t * suc n)) in (rw mul-zero h.0, h.1)

-- its size, and its range by the smaller of the two ends
pub size : (z : ℤ) → nat_abs z ≡ up z + down z
size (pos n) = omega arith
size (negsuc n) = omega arith

pub size_sum : (x y : ℤ) → nat_abs (x +ℤ y) ≤ nat_abs x + nat_abs y
size_sum x y = go (x +ℤ y) (sum x y)
  where
    go : (z : ℤ) → up z + (down x + down y) ≡ up x + up y + down z → nat_abs z ≤ nat_abs x + nat_abs y
    go (pos n) e = omega (arith, size x, size y)
    go (negsuc n) e = omega (arith, size x, size y)

pub mag_size : (z : ℤ) → mag z ≤ nat_abs z
mag_size (pos n) = omega arith
mag_size (negsuc n) = omega arith

-- the order
pub le_sides : (x y : ℤ) → So (le_z x y) → up x + down y ≤ up y + down x
le_sides (pos m) (pos n) t = let h = leb-true m n t in omega arith
le_sides (pos m) (negsuc n) t = absurd (false≢true t)
le_sides (negsuc m) (pos n) t = omega arith
le_sides (negsuc m) (negsuc n) t = let h = leb-true n m t in omega arith

pub sides_le : (x y : ℤ) → up x + down y ≤ up y + down x → So (le_z x y)
sides_le (pos m) (pos n) l = le-leb m n (omega arith)
sides_le (pos m) (negsuc n) l = absurd (omega arith)
sides_le (negsuc m) (pos n) l = refl
sides_le (negsuc m) (negsuc n) l = le-leb n m (omega arith)
