-- `blocks::put_lines` meets its contract: after each turn the lines of the rows passed are true.
use native.Mathlib.Omega.{arith}
use Rattle.blocks.proofs.Rowed.{row_more}
use Rattle.blocks.proofs.put_lines.Goals as goal

pub loop-r-preserved : goal.loop-r-preserved
loop-r-preserved c =
    let q = c.loop-r in
    let a = c.args in
    let wrote = c.line_by_kind.ensures in (
      wrote.size,
      row_more a.rows.now a.keep.now a.flips.now a.after.now a.last a.words.now a.steps q.lines
          c.line_by_kind.new.lines q.r c.requires.0 c.requires.1 (omega arith) c.from-in-loop-r.ensures c.from-first.ensures
          c.from.ensures wrote q.invariant.1,
    )
