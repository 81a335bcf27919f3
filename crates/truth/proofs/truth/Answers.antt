-- `truth::truth` meets its contract: a table of the right size is decoded whole, and the answer is what its rows say.
use native.Mathlib.Omega.{arith}
use mathlib.Core.Path.{◌≡◌, ◌∙◌, ap}
use lib.ListN.{length}
use Rattle.figures.specs.Refusals.{check_says, ◌then◌}
use Rattle.figures.proofs.Known.{said}
use Rattle.codec.specs.Codec.{rows_of}
use Rattle.row_laws.proofs.Sized.{table_decoded}
use Rattle.truth.specs.Answers.{rows_say, truth_says}
use Rattle.truth.proofs.truth.Goals as goal

pub truth_of_rows-requires : goal.truth_of_rows-requires
truth_of_rows-requires c =
    let d = table_decoded _ _ c.in_ok-check_size.was c.check_size.ensures in
    let many : length c.deref.result.now ≡ length (rows_of c.args.table.now) = cc in
    (omega arith, omega arith, d.suited)

pub returns : goal.returns
unfolding truth_says
returns c =
    let a = c.args in
    let d = table_decoded _ _ c.in_ok-check_size.was c.check_size.ensures in
    let e : c.deref.result.now ≡ rows_of a.table.now = cc in
    c.truth_of_rows.ensures
    ∙ ap (λ rows. rows_say rows a.run.now a.conditions.0) e
    ∙ said check_says (λ o. o then λ _. rows_say (rows_of a.table.now) a.run.now a.conditions.0) c.check_size.ensures c.in_ok-check_size.was
