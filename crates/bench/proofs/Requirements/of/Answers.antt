-- `bench::Requirements::of` meets its contract: a file whose checks gave these counts is ready, and they are the counts in its head.
use Rattle.bench.proofs.Ready.{ready}
use Rattle.bench.proofs.Requirements.of.Goals as goal

pub invariant_of-result : goal.invariant_of-result
invariant_of-result c =
    let all = ready c.args.file.now c.args.counts c.requires in
    record { ready = all.0; conditions_counted = all.2; counted = all.3 }
