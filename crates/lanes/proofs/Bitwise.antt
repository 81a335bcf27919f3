-- The lanes of a word that is made bit by bit: from no bit, all bits, one bit, "and", "or" and "not".
-- Assumes nothing.
use mathlib.Core.Path.{◌≡◌, refl, sym}
use mathlib.Core.Bool.{true, false, not, ◌&&◌, ◌||◌}
use Prim.Native.Nat.{ℕ, ◌-◌, ◌*◌, ◌^◌, ◌<◌}
use native.Mathlib.Decide.{ℕ_discrete}
use native.Mathlib.Nat.{one-mul}
use borrow.Author.Tests.{eq-eqb, ne_eqb}
use lib.Dec.{eqb}
use Rattle.std.specs.Prelude.{bit_and, bit_or}
use Rattle.std.proofs.Common.{rules, w64}
use Rattle.std.proofs.lemmas.Nat.Bits.{bit_at-zero, bit_at_and, bit_at_or, bit_at_not, bit_at_ones, bit_at-pow_same, bit_at-pow_other}
use Rattle.lanes.specs.Lanes.{lane, lane_count}

pub lane_none : (k : ℕ) → lane 0 k ≡ false
unfolding lane
lane_none k = rw (bit_at-zero k)

pub lane_and : (a b k : ℕ) → lane (bit_and a b) k ≡ (lane a k && lane b k)
unfolding lane
lane_and a b k = let digit = bit_at_and a b k in search rules

pub lane_or : (a b k : ℕ) → lane (bit_or a b) k ≡ (lane a k || lane b k)
unfolding lane
lane_or a b k = let digit = bit_at_or a b k in search rules

pub lane_not : (a k : ℕ) → a < 2 ^ lane_count → k < lane_count → lane (2 ^ lane_count - 1 - a) k ≡ not (lane a k)
unfolding lane
lane_not a k fits l = let digit = bit_at_not w64 a k fits l in search rules

pub lane_all : (k : ℕ) → k < lane_count → lane (2 ^ lane_count - 1) k ≡ true
unfolding lane
lane_all k l = rw (bit_at_ones lane_count k l)

pub lane_one : (at k : ℕ) → lane (1 * 2 ^ at) k ≡ eqb k at
unfolding lane
lane_one at k = go (ℕ_discrete k at)
  where
    go : Dec (k ≡ at) → lane (1 * 2 ^ at) k ≡ eqb k at
    go (yes e) = rw (one-mul (2 ^ at), e, bit_at-pow_same at) (sym (eq-eqb at at refl))
    go (no d) = rw (one-mul (2 ^ at), bit_at-pow_other at k d) (sym (ne_eqb k at d))
