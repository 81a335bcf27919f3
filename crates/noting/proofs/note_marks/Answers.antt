-- `noting::note_marks` meets its contract: the notes of the rows passed are right, and no other requirement's changed.
use native.Mathlib.Omega.{arith}
use mathlib.Core.Path.{◌∙◌}
use Rattle.signals.specs.Signals.{some}
use Rattle.bench.specs.Tables.{marked}
use Rattle.bench.proofs.Cells.{column_more}
use Rattle.noting.proofs.note_marks.Goals as goal

pub loop-p-preserved : goal.loop-p-preserved
loop-p-preserved c =
    let q = c.loop-p in
    let note = c.note.ensures in
    record {
      here =
          column_more note (λ p. some c.args.runs.0 0 (marked c.args.marks.now.cells p)) (omega arith) q.invariant.here c.any_mark-mark.ensures;
      others = λ r p l apart. note.others r p l (λ e _. apart e) ∙ q.invariant.others r p l apart;
    }
