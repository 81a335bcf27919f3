-- `ways::go_up` meets its contract: what is left to climb leads where the whole way does.
use Rattle.ways.specs.Climbing.{way_at}
use Rattle.ways.proofs.Upward.{Upward}
use Rattle.ways.proofs.go_up.Given as goal

abbrev pub invariant-loop-s : goal.invariant-loop-s
invariant-loop-s l = Upward l.rows l.p l.s (way_at l.stand l.added.items)
