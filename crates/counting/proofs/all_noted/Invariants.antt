-- `counting::all_noted` meets its contract: the total is that of the noted rows of the requirements passed.
use lib.ListN.{length}
use Rattle.lengths.specs.Lengths.{most_requirement_rows}
use Rattle.layout.specs.Layout.{form1}
use Rattle.layout.specs.Checks.{requirement_rows_in}
use Rattle.bench.specs.Coverage.{size}
use Rattle.bench.specs.Tables.{noted}
use Rattle.bench.proofs.Loops.{Summed}
use Rattle.counting.proofs.all_noted.Given as goal

abbrev pub invariant-loop-q : goal.invariant-loop-q
invariant-loop-q l =
    let ours = l.requirements in
    Summed (λ k. size (length (requirement_rows_in form1 ours.file.now k)) (noted l.notes.cells k)) most_requirement_rows ours.many.0 l.q l.total
