-- `counting::all_occurrences` meets its contract: the total is that of the occurrences of the requirements passed.
use native.Mathlib.Omega.{arith}
use Rattle.bench.proofs.Loops.{summed_none, summed_more}
use Rattle.counting.proofs.all_occurrences.Goals as goal

pub loop-q-init : goal.loop-q-init
loop-q-init c = summed_none

pub loop-q-preserved : goal.loop-q-preserved
loop-q-preserved c =
    let here = c.occurrences_of-total.ensures in
    summed_more c.loop-q.invariant (omega arith) here.0 here.1
