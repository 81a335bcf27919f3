-- `covs::put_covs` meets its contract: the lines of the occurrences passed stand in order.
use native.Mathlib.Omega.{arith}
use Prim.Native.Nat.{◌<◌}
use lib.ListN.{length}
use Rattle.lines.proofs.InOrder.{turn_none, turn_room, turn_more}
use Rattle.covs.proofs.Occurring.{few_occurrences}
use Rattle.covs.proofs.put_covs.Goals as goal

pub loop-o-init : goal.loop-o-init
loop-o-init g c = turn_none _ _ _

pub put_covs_of-requires : goal.put_covs_of-requires
put_covs_of-requires g c =
    let fits = c.well_formed in
    let few = few_occurrences c.args.rows.now in
    let here : c.loop-o.o < length c.args.rows.now = omega (arith, c.occurrence_count-o-end.ensures) in (
      omega arith,
      (
        c.requires.0,
        omega arith,
        omega (arith, c.row_of-p.ensures.1),
        c.requires.2,
        omega (arith, turn_room c.loop-o.invariant c.requires.3 here),
      ),
    )

pub loop-o-preserved : goal.loop-o-preserved
loop-o-preserved g c =
    turn_more c.loop-o.invariant (rw c.row_of-p.ensures.0 at c.put_covs_of.ensures.puts) (omega (arith, c.put_covs_of.ensures.ends))

pub returns-clause-ends : goal.returns-clause-ends
returns-clause-ends g c =
    omega (arith, few_occurrences c.args.rows.now, c.occurrence_count-o-end.ensures, c.loop-o.invariant.ends)
