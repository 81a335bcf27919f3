-- What a search found lies inside what it searched.
-- Assumes nothing.
use mathlib.Core.Path.{◌≡◌, sym}
use mathlib.Core.Bool.{Bool}
use Rattle.std.specs.Prelude.{Some}
use Prim.Native.Nat.{ℕ, ◌<◌}
use native.Mathlib.Omega.{arith}
use Rattle.figures.specs.Numbers.{lowest}
use Rattle.laws.proofs.Lowest.{lowest_is}

pub found_inside : (m : ℕ) (f : ℕ → Bool) {k : ℕ} → Some k ≡ lowest m 0 f → k < m
found_inside m f {k} e = let h = (lowest_is m 0 f k (sym e)).inside in omega arith
