-- `marking::keep_of` meets its contract: each occurrence passed leaves out the lane of its number, and no other row leaves out any.
use native.Mathlib.Omega.{arith}
use mathlib.Core.Path.{◌≡◌, refl, ◌∙◌, ap, ap₂}
use mathlib.Core.Bool.{Bool, true, false, not, ◌&&◌, ◌||◌}
use mathlib.Core.List.{List}
use Prim.Native.Nat.{ℕ, ◌<◌}
use lib.Bits.{bit_or}
use lib.Dec.{eqb}
use Rattle.rows.specs.Rows.{Row}
use Rattle.rows.specs.Checks.{condition_at}
use Rattle.lanes.specs.Lanes.{lane_count, lane}
use Rattle.lanes.proofs.Bitwise.{lane_or}
use Rattle.blocks.proofs.Stored.{stored_more}
use Rattle.marking.specs.Flipped.{number_in}
use Rattle.marking.proofs.Numbered.{size_with}
use Rattle.std.proofs.Common.{rules}
use Rattle.marking.proofs.keep_of.Goals as goal

-- the word of row r
abbrev Kept : List Row → ℕ → ℕ → Type 0
Kept rows r w = (k : ℕ) → k < lane_count → lane w k ≡ not (condition_at rows r && eqb k (number_in rows r))

kept :
    (x y k : ℕ) {reads is : Bool} {o number : ℕ} → lane x k ≡ not reads → lane y k ≡ not (eqb k o) → reads ≡ is → o ≡ number →
    lane (bit_or x y) k ≡ not (is && eqb k number)
kept x y k {is = is} {number = number} p q e f =
    lane_or x y k ∙ ap₂ ◌||◌ (p ∙ ap not e) (q ∙ ap (λ (n : ℕ). not (eqb k n)) f) ∙ both is (eqb k number)
  where
    both : (a b : Bool) → (not a || not b) ≡ not (a && b)
    both true b = refl
    both false b = refl

pub loop-r-preserved : goal.loop-r-preserved
loop-r-preserved c =
    let q = c.loop-r in
    let rows = c.args.rows.now in
    let reads = c.is_condition_row-reads in
    let all = c.in_all in
    let but = c.all_but in
    let v = bit_or all.result but.result in
    let more = size_with q.r (condition_at rows) reads.ensures in (
      omega (arith, more),
      search (rules, q.invariant.1),
      search rules,
      stored_more (Kept rows) q.keep q.r v (omega arith) q.invariant.3
          (λ k l. kept all.result but.result k (all.ensures k l) (but.ensures k l) reads.ensures q.invariant.0),
    )
