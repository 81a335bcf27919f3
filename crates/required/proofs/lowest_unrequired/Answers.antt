-- `required::lowest_unrequired` meets its contract: every row passed is as required, so the first that is not is the lowest.
use native.Mathlib.Omega.{arith}
use mathlib.Core.Path.{sym, ◌∙◌}
use Rattle.laws.proofs.Lowest.{stopped_at}
use Rattle.required.proofs.lowest_unrequired.Goals as goal

pub returns-then-not-row_required : goal.returns-then-not-row_required
returns-then-not-row_required c =
    let q = c.loop-r in
    stopped_at _ _ q.r q.invariant (omega arith) (sym c.row_required.ensures ∙ c.if-not-row_required.true)
