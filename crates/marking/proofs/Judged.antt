-- One pass over a run decides every pair of it: the last lane is the run as recorded, lane o the run with occurrence o flipped.
-- Assumes nothing.
use mathlib.Core.Path.{◌≡◌, refl, sym, ◌∙◌, ap, ap₂}
use mathlib.Core.Bool.{Bool, true, false, not, cond, ◌&&◌, So}
use mathlib.Core.List.{List}
use Prim.Native.Nat.{ℕ, ◌<◌}
use native.Mathlib.Omega.{arith}
use native.Mathlib.Decide.{ℕ_discrete}
use borrow.Author.Tests.{eq-eqb, ne_eqb}
use lib.Dec.{eqb}
use lib.ListN.{length, get_or}
use Rattle.rows.specs.Rows.{Row}
use Rattle.rows.specs.Checks.{condition_at, occurrences, IsRequirement}
use Rattle.signals.specs.Signals.{Signal}
use Rattle.signals.specs.Truth.{own_of, reads_of, flip, verdict_of, holds}
use Rattle.coverage.specs.Coverage.{witness_bit, covered}
use Rattle.coverage.proofs.Theorems.{same_verdict}
use Rattle.flips.proofs.Decide.{covered_by_witness}
use Rattle.lanes.specs.Lanes.{lane_count, lane}
use Rattle.blocks.specs.Blocks.{lane_reads}
use Rattle.bench.specs.Tables.{mark_of}
use Rattle.marking.specs.Flipped.{number_in, recorded, Flips}
use Rattle.marking.proofs.Numbered.{number_below, numbers_apart}

module _
    (rows : List Row) (is : IsRequirement rows) (some_row : 0 < length rows) (few : length (occurrences rows) < lane_count)
    (keep flips : List ℕ) (ready : Flips rows keep flips) (run : List ℕ) where
  abbrev reads : ℕ → ℕ → Signal
  reads = lane_reads rows keep flips run

  -- what a row reads in a lane, by whether it is flipped there
  reads_in :
      (k r : ℕ) → k < lane_count → r < length rows → (b : Bool) → (condition_at rows r && eqb k (number_in rows r)) ≡ b →
      reads k r ≡ cond b (λ _. witness_bit rows r) (reads_of rows run r)
  reads_in k r lk l b e =
      ap₂ {C = Signal} (λ (x y : Bool) (i : ℕ). cond x (own_of rows (get_or run i 0) r) y)
      (ready.keeps r l k lk ∙ ap not e) (ready.witnesses r l k lk)
      ∙ go b
    where
      go :
          (b : Bool) →
          ◌≡◌ {A = Signal} (λ i. cond (not b) (own_of rows (get_or run i 0) r) (witness_bit rows r)) (cond b (λ _. witness_bit rows r) (reads_of rows run r))
      go true = refl
      go false = refl

  as_recorded : (r : ℕ) → r < length rows → reads recorded r ≡ reads_of rows run r
  as_recorded r l = reads_in recorded r (omega arith) l false (go (condition_at rows r) refl)
    where
      go : (b : Bool) → condition_at rows r ≡ b → (b && eqb recorded (number_in rows r)) ≡ false
      go true e = ne_eqb recorded (number_in rows r) (λ q. omega (arith, number_below rows r (length rows) l e))
      go false e = refl

  module _ (p : ℕ) (inside : p < length rows) (condition : So (condition_at rows p)) where
    abbrev o : ℕ
    o = number_in rows p

    o_small : o < lane_count
    o_small = omega (arith, number_below rows p (length rows) inside condition)

    flipped : (r : ℕ) → r < length rows → reads o r ≡ flip p (λ _. witness_bit rows p) (reads_of rows run) r
    flipped r l = go (ℕ_discrete r p)
      where
        elsewhere : (r ≡ p → ⊥) → (b : Bool) → condition_at rows r ≡ b → (b && eqb o (number_in rows r)) ≡ false
        elsewhere d true e = ne_eqb o (number_in rows r) (numbers_apart rows r p e condition d)
        elsewhere d false e = refl

        go : Dec (r ≡ p) → reads o r ≡ flip p (λ _. witness_bit rows p) (reads_of rows run) r
        go (yes e) =
            rw (eq-eqb r p e, e)
            (reads_in o p o_small inside true (ap (λ (b : Bool). b && eqb o o) condition ∙ eq-eqb o o refl))
        go (no d) = rw (ne_eqb r p d) (reads_in o r o_small l false (elsewhere d (condition_at rows r) refl))

  -- a word of verdicts
  module _ (v : ℕ) (judged : (k : ℕ) → k < lane_count → lane v k ≡ verdict_of rows (reads k) (length run)) where
    pub held_is : lane v recorded ≡ holds rows run
    held_is =
        judged recorded (omega arith) ∙ same_verdict rows is some_row (length run) (reads recorded) (reads_of rows run) as_recorded

    pub mark_is :
        0 < length run → (p : ℕ) → p < length rows →
        (condition_at rows p && (lane v recorded && not (lane v (number_in rows p)))) ≡ mark_of rows run p
    mark_is some_step p l = go (condition_at rows p) refl
      where
        covers : Bool
        covers = covered rows (reads_of rows run) (length run) p

        go : (b : Bool) → condition_at rows p ≡ b → (b && (lane v recorded && not (lane v (number_in rows p)))) ≡ (b && covers)
        go true e =
            ap₂ (λ (x y : Bool). x && not y) held_is
            (judged (number_in rows p) (o_small p l e)
            ∙ same_verdict rows is some_row (length run) (reads (number_in rows p)) (flip p (λ _. witness_bit rows p) (reads_of rows run)) (flipped p l e))
            ∙ sym (covered_by_witness rows is p l e (length run) some_step (reads_of rows run))
        go false e = refl
