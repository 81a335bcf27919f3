-- `marking::mark_run` meets its contract: the marks of the rows passed are set in the run's column, and no others changed.
use native.Mathlib.Omega.{arith}
use mathlib.Core.Path.{◌≡◌, ◌∙◌}
use mathlib.Core.Bool.{Bool, not, ◌&&◌}
use mathlib.Core.List.{List}
use Prim.Native.Nat.{ℕ, ◌≤◌, ◌<◌}
use lib.ListN.{length}
use Rattle.lengths.specs.Lengths.{most_requirement_rows}
use Rattle.rows.specs.Rows.{Row}
use Rattle.rows.specs.Checks.{condition_at, occurrences}
use Rattle.layout.specs.Checks.{words_of}
use Rattle.lanes.specs.Lanes.{lane_count, lane}
use Rattle.bench.specs.Tables.{mark_of}
use Rattle.bench.proofs.Cells.{row_more}
use Rattle.bench.proofs.Sizes.{size_most}
use Rattle.marking.specs.Flipped.{number_in, recorded}
use Rattle.marking.proofs.Judged.{held_is, mark_is}
use Rattle.marking.proofs.Numbered.{size_with}
use Rattle.std.proofs.Common.{rules}
use Rattle.marking.proofs.mark_run.Goals as goal

-- the value that is stored, from what the calls gave
stored-mark :
    {reads held there : Bool} {o : ℕ} (rows : List Row) (run : List ℕ) (v p : ℕ) → reads ≡ condition_at rows p → held ≡ lane v recorded →
    there ≡ lane v o → o ≡ number_in rows p → (condition_at rows p && (lane v recorded && not (lane v (number_in rows p)))) ≡ mark_of rows run p →
    (reads && (held && not there)) ≡ mark_of rows run p
stored-mark rows run v p reads-is held_is there-is o_is is = rw (reads-is, held_is, there-is, o_is) is

-- few enough for the lanes
few : (rows : List Row) → length rows ≤ most_requirement_rows → length (occurrences rows) < lane_count
few rows l = omega (arith, size_most (length rows) (condition_at rows))

pub loop-p-preserved : goal.loop-p-preserved
loop-p-preserved c =
    let q = c.loop-p in
    let rows = c.args.rows.now in
    let run = words_of c.args.run.now in
    let reads = c.is_condition_row-reads in
    let ready = c.requires.0 in
    let judged = c.judge-verdicts in
    let j = c.args.j.0 in
    let in-width = c.requires.3 in
    let more = size_with q.p (condition_at rows) reads.ensures in
    let is = mark_is rows ready.is ready.some_row (few rows ready.few_rows) c.args.keep.now c.args.flips.now c.requires.1
    run judged.result judged.ensures.by_index c.requires.2.some_step q.p (omega arith) in (
      omega (arith, more),
      search (rules, q.invariant.1),
      row_more c.mark.ensures (mark_of rows run) in-width q.invariant.2
          (stored-mark rows run judged.result q.p reads.ensures c.in_lane-held.ensures c.in_lane.ensures q.invariant.0 is),
      λ k i l apart. c.mark.ensures.others k i l (λ _ e. apart e) ∙ q.invariant.3 k i l apart,
    )

pub returns-clause-value : goal.returns-clause-value
returns-clause-value c =
    let rows = c.args.rows.now in
    let ready = c.requires.0 in
    let judged = c.judge-verdicts in
    c.in_lane-held.ensures
    ∙ held_is rows ready.is ready.some_row (few rows ready.few_rows) c.args.keep.now c.args.flips.now c.requires.1
    (words_of c.args.run.now) judged.result judged.ensures.by_index
