-- `row_checks::lowest_unsound` meets its contract: every row passed is sound, so the first that is not is the lowest.
use native.Mathlib.Omega.{arith}
use mathlib.Core.Path.{sym, ◌∙◌}
use Rattle.laws.proofs.Lowest.{passed_more, stopped_at}
use Rattle.row_checks.proofs.lowest_unsound.Goals as goal

pub returns-then-not-row_sound : goal.returns-then-not-row_sound
returns-then-not-row_sound c =
    let q = c.loop-r in
    stopped_at _ _ q.r q.invariant (omega arith) (sym c.row_sound.ensures ∙ c.if-not-row_sound.true)

pub loop-r-preserved : goal.loop-r-preserved
loop-r-preserved c =
    let q = c.loop-r in
    passed_more _ q.r q.invariant (sym c.row_sound.ensures ∙ c.if-not-row_sound.false)
