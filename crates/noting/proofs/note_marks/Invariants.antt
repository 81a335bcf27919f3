-- `noting::note_marks` meets its contract: the notes of the rows passed are right, and no other requirement's changed.
use Rattle.bench.specs.Tables.{RowNoted}
use Rattle.noting.proofs.note_marks.Given as goal

abbrev pub invariant-loop-p : goal.invariant-loop-p
invariant-loop-p l = RowNoted l.marks.cells l.runs.0 l.q.0 l.p l.initial.notes.cells l.notes.cells
