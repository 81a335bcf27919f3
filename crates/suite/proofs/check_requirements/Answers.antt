-- `suite::check_requirements` meets its contract: each requirement passed has no refusal, so the first that has one is the first in turn.
use native.Mathlib.Omega.{arith}
use Rattle.std.proofs.Common.{rules}
use Rattle.std.proofs.lemmas.Result.{err_from_is_err_and}
use Rattle.suite_laws.proofs.Turn.{turn_stopped}
use Rattle.suite.proofs.check_requirements.Goals as goal

pub returns-in_err-check_requirement : goal.returns-in_err-check_requirement
returns-in_err-check_requirement c =
    let q = c.loop-q in
    let p = err_from_is_err_and c.from_residual.result c.from_residual.ensures.1 in
    rw (p.1, p.2) (turn_stopped _ q.q _ q.invariant (omega (arith, c.byte_at-q-end.ensures.0)) (search rules))
