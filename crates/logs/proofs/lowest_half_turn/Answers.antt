-- `logs::lowest_half_turn` meets its contract: no step passed is followed by half a turn, so the first that is is the lowest.
use native.Mathlib.Omega.{arith}
use mathlib.Core.Bool.{not}
use mathlib.Core.Path.{sym, ◌∙◌, ap}
use borrow.Author.Tests.{eq-eqb}
use Rattle.laws.proofs.Lowest.{stopped_at, passed_all}
use Rattle.logs.proofs.lowest_half_turn.Goals as goal

pub returns-then-difference : goal.returns-then-difference
returns-then-difference c =
    let q = c.loop-k in
    stopped_at _ _ q.k q.invariant (omega (arith, c.saturating_sub-k-end.ensures))
    (ap not (eq-eqb _ _ (sym c.difference_at-difference.ensures ∙ c.if-difference.true)))

pub returns : goal.returns
returns c =
    let q = c.loop-k in
    passed_all _ _ q.k q.invariant (omega (arith, c.saturating_sub-k-end.ensures))
