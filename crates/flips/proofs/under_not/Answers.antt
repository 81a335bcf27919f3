-- `flips::under_not` meets its contract: what `any` finds in the table is what is negated below its end.
use mathlib.Core.Path.{◌≡◌, ◌∙◌}
use Rattle.std.proofs.Common.{rules, tests}
use Rattle.std.proofs.lemmas.Iterator.{YieldsList-from_slice}
use Rattle.std.proofs.lemmas.Iterator.Search.{any_from_yields_List}
use Rattle.flips.proofs.Over.{over, over_any}
use Rattle.flips.proofs.under_not.Goals as goal

pub returns : goal.returns
returns c =
    let rows = c.args.rows.now in
    any_from_yields_List (over c.args.p.0) _ _ _ c.any.ensures.ran (YieldsList-from_slice rows cc) (λ x b q k. search (rules, tests))
    ∙ over_any rows c.args.p.0
