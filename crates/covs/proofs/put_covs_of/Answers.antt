-- `covs::put_covs_of` meets its contract: the lines of the runs passed stand in order.
use Rattle.lines.proofs.InOrder.{turn_none, turn_more}
use Rattle.covs.proofs.put_covs_of.Goals as goal

pub loop-j-init : goal.loop-j-init
loop-j-init g c = turn_none _ _ _

pub loop-j-preserved : goal.loop-j-preserved
loop-j-preserved g c = turn_more c.loop-j.invariant (rw c.is_marked.ensures at c.put_cov_if.ensures.puts) c.put_cov_if.ensures.ends
