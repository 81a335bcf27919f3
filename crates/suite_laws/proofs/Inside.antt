-- Where the contents are right every body lies whole inside the file.
-- Assumes nothing.
use mathlib.Core.Path.{◌≡◌, ap}
use mathlib.Core.List.{List}
use Prim.Native.Nat.{ℕ, zero, suc, ◌+◌, ◌-◌, ◌≤◌, ◌<◌}
use native.Mathlib.Omega.{arith}
use lib.ListN.{length, drop, length-drop}
use lib.Seq.{length-take-le}
use Rattle.layout.specs.Layout.{form1, items_in, start_in, body_size, must_begin, body_in}
use Rattle.layout.specs.Checks.{Range}
use Rattle.suite_laws.proofs.Right.{ContentsRight}

module _ (file : List ℕ) (range : Range) (right : ContentsRight form1 range file) where
  begin_inside : (m k : ℕ) → k + m ≡ items_in file → must_begin form1 file k ≤ length file
  unfolding must_begin
  begin_inside zero k e =
      let last : k ≡ items_in file = omega arith in
      let same = ap (must_begin form1 file) last in
      omega (arith, right.end)
  begin_inside (suc m) k e = let h = begin_inside m (suc k) (omega arith) in omega arith

  pub begin_in : (k : ℕ) → k ≤ items_in file → must_begin form1 file k ≤ length file
  begin_in k l = begin_inside (items_in file - k) k (omega arith)

  pub length_body : (k : ℕ) → k < items_in file → length (body_in form1 file k) ≡ body_size form1 file k
  unfolding must_begin
  length_body k l =
      let start = (right.entries k l).0 in
      length-take-le (body_size form1 file k) (drop (start_in form1 file k) file)
      (omega (arith, begin_in (suc k) l, length-drop (start_in form1 file k) file))
