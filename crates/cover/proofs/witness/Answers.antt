-- `cover::witness` meets its contract: a requirement of the right size is decoded whole, and the answer is what its rows give.
use native.Mathlib.Omega.{arith}
use mathlib.Core.Path.{◌≡◌, ◌∙◌, ap}
use mathlib.Core.List.{List}
use lib.ListN.{length, get_or}
use Rattle.figures.specs.Refusals.{check_says, ◌then◌}
use Rattle.figures.proofs.Known.{said}
use Rattle.codec.specs.Codec.{rows_of}
use Rattle.rows.specs.Rows.{Row}
use Rattle.rows.specs.Checks.{occurrences}
use Rattle.row_laws.proofs.Sized.{requirement_decoded}
use Rattle.cover.specs.Answers.{rows_witness, witness_of, lent_after}
use Rattle.coverage.specs.Coverage.{witness_bytes}
use Rattle.cover.proofs.Falsifies.{falsified}
use Rattle.cover.proofs.witness.Goals as goal

pub witness_of_rows-requires : goal.witness_of_rows-requires
witness_of_rows-requires c =
    let d = requirement_decoded _ _ c.in_ok-check_size.was c.check_size.ensures in
    let many : length c.deref.result.now ≡ length (rows_of c.args.requirement.now) = cc in
    (omega arith, omega arith, d.suited)

pub returns : goal.returns
unfolding witness_of
returns c =
    let a = c.args in
    let run = a.run.now in
    let says = λ (rows : List Row). rows_witness rows run a.conditions.0 a.occurrence.0 (length a.out.now) in
    let bytes = λ (rows : List Row). witness_bytes rows (get_or (occurrences rows) a.occurrence.0 0) (length run) in
    let d = requirement_decoded _ _ c.in_ok-check_size.was c.check_size.ensures in
    let whole : c.deref.result.now ≡ rows_of a.requirement.now = cc in
    let e = said check_says (λ o. o then λ _. says (rows_of a.requirement.now)) c.check_size.ensures c.in_ok-check_size.was in
    let said = c.witness_of_rows.ensures.result_value ∙ ap says whole ∙ e in
    let left =
    c.witness_of_rows.ensures.out_after
    ∙ ap (λ rows. lent_after (says rows) (bytes rows) a.out.now) whole
    ∙ ap (λ o. lent_after o (bytes (rows_of a.requirement.now)) a.out.now) e in record {
      result_value = said;
      out_after = left;
      falsified = falsified a.requirement.now run a.conditions.0 a.occurrence.0 a.out.now said left;
    }
