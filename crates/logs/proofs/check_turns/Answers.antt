-- `logs::check_turns` meets its contract: it refuses at the step after the one that the search found.
use native.Mathlib.Omega.{arith}
use mathlib.Core.Path.{sym}
use Rattle.laws.proofs.Lowest.{lowest_is}
use Rattle.logs.proofs.check_turns.Goals as goal

pub overflow_add-result : goal.overflow_add-result
overflow_add-result c =
    let h = (lowest_is _ 0 _ _ (sym c.in-Some.ensures)).inside in
    record { fits = omega (arith, c.requires) }
