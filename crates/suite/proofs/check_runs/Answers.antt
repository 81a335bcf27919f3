-- `suite::check_runs` meets its contract: each run passed has no refusal, so the first that has one is the first in turn.
use native.Mathlib.Omega.{arith}
use Rattle.std.proofs.Common.{rules}
use Rattle.std.proofs.lemmas.Result.{err_from_is_err_and}
use Rattle.suite_laws.proofs.Turn.{turn_stopped}
use Rattle.suite.proofs.check_runs.Goals as goal

pub returns-in_err-check_run : goal.returns-in_err-check_run
returns-in_err-check_run c =
    let j = c.loop-j in
    let p = err_from_is_err_and c.from_residual.result c.from_residual.ensures.1 in
    rw (p.1, p.2) (turn_stopped _ j.j _ j.invariant (omega (arith, c.byte_at-j-end.ensures.0)) (search rules))
