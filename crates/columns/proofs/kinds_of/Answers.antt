-- `columns::kinds_of` meets its contract: the kinds passed are those of their rows.
use Rattle.std.proofs.Common.{◌<◌, ◌≢◌, length, arith, rules, get_or-set_other, get_or-set_same, below_more}
use Rattle.columns.proofs.kinds_of.Goals as goal

pub loop-r-preserved : goal.loop-r-preserved
loop-r-preserved c =
    let q = c.loop-r in (
      search rules,
      below_more _ _ (λ k h. let ne : k ≢ q.r = omega arith in rw get_or-set_other (q.invariant.1 k h))
          (let lt : q.r < length q.kinds = omega arith in rw get_or-set_same c.from.ensures),
    )
