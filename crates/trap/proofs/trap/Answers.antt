-- `trap::trap` meets its contract: a requirement of the right size is decoded whole, and the answer is what its rows give.
use native.Mathlib.Omega.{arith}
use mathlib.Core.Path.{◌≡◌, ◌∙◌, ap}
use lib.ListN.{length}
use Rattle.figures.specs.Refusals.{check_says, ◌then◌}
use Rattle.figures.proofs.Known.{said}
use Rattle.codec.specs.Codec.{rows_of}
use Rattle.row_laws.proofs.Sized.{requirement_decoded}
use Rattle.trap.specs.Answers.{rows_trap, trap_of, lent_after, trap_bytes, rows_lent}
use Rattle.trap.proofs.trap.Goals as goal

pub trap_of_rows-requires : goal.trap_of_rows-requires
trap_of_rows-requires c =
    let d = requirement_decoded _ _ c.in_ok-check_size.was c.check_size.ensures in
    let many : length c.deref.result.now ≡ length (rows_of c.args.requirement.now) = cc in
    omega arith

pub returns : goal.returns
unfolding trap_of
returns c =
    let a = c.args in
    let d = requirement_decoded _ _ c.in_ok-check_size.was c.check_size.ensures in
    let whole : c.deref.result.now ≡ rows_of a.requirement.now = cc in
    let e = said check_says (λ o. o then λ _. rows_trap (rows_of a.requirement.now) a.conditions.0 a.occurrence.0 (length a.out.now)) c.check_size.ensures c.in_ok-check_size.was in record {
      result_value = c.trap_of_rows.ensures.result_value ∙ ap (λ rows. rows_trap rows a.conditions.0 a.occurrence.0 (length a.out.now)) whole ∙ e;
      out_after = c.trap_of_rows.ensures.out_after
          ∙ ap (λ rows. rows_lent rows a.conditions.0 a.occurrence.0 a.out.now) whole
          ∙ ap (λ o. lent_after o (trap_bytes (rows_of a.requirement.now) a.occurrence.0) a.out.now) e;
    }
