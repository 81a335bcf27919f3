-- `occurrences::occurrence_row` meets its contract: the row in hand follows as many occurrences as were seen.
use native.Mathlib.Omega.{arith}
use mathlib.Core.Path.{sym, ◌∙◌}
use Rattle.laws.proofs.Below.{length_more, found_at}
use Rattle.rows.specs.Checks.{condition_at}
use Rattle.rows.proofs.Named.{one_of}
use Rattle.occurrences.proofs.occurrence_row.Goals as goal
use Rattle.occurrences.proofs.occurrence_row.Goals.{then-is_condition_row+else-seen-occurrence, else-is_condition_row}

pub returns-then-seen-occurrence : goal.returns-then-seen-occurrence
returns-then-seen-occurrence c =
    let q = c.loop-r in
    found_at (condition_at c.args.rows.now) _ q.r _ (omega arith)
    (sym c.is_condition_row.ensures ∙ c.if-is_condition_row.true) (sym q.invariant.0 ∙ c.if-seen-occurrence.true)

pub loop-r-preserved : goal.loop-r-preserved
loop-r-preserved c =
    let more = length_more (condition_at c.args.rows.now) c.loop-r.r in
    elim c.if-is_condition_row.branch [
      | then-is_condition_row+else-seen-occurrence w ↦
          let here = one_of (sym c.is_condition_row.ensures ∙ w.if-is_condition_row.true) in
          (omega (arith, w.seen-is, more, here), omega (arith, w.if-seen-occurrence.false, w.seen-is), omega (arith, w.seen-is))
      | else-is_condition_row w ↦
          let here = one_of (sym c.is_condition_row.ensures ∙ w.if-is_condition_row.false) in
          (omega (arith, w.seen-is, more, here), omega (arith, w.seen-is), omega (arith, w.seen-is))
    ]
