-- `composing::put_blocks` meets its contract: the blocks of the requirements passed stand in order, and their notes are right.
use native.Mathlib.Omega.{arith}
use Rattle.bench.specs.Files.{bench_of}
use Rattle.lines.proofs.InOrder.{turn_none, turn_room, turn_more}
use Rattle.composing.proofs.Noted.{suite_more}
use Rattle.composing.proofs.put_blocks.Goals as goal

pub loop-q-init : goal.loop-q-init
loop-q-init g c = (turn_none _ 26646 c.args.page.now.text.items, λ q p l _. absurd (omega arith))

pub put_block-requires : goal.put_block-requires
put_block-requires g c =
    let fits = c.well_formed in
    let inv = c.loop-q.invariant in
    (omega arith, (c.loop-q-test.true, turn_room inv.0 c.requires c.loop-q-test.true))

pub loop-q-preserved : goal.loop-q-preserved
loop-q-preserved g c =
    let inv = c.loop-q.invariant in
    let put = c.put_block.ensures in
    let file = c.args.requirements.file.now in (
      turn_more inv.0 put.puts put.ends,
      suite_more (bench_of file c.args.runs.file.now)
          (λ r l. (c.args.requirements.ready.rows r (omega (arith, c.args.requirements.counted))).few_rows) inv.1 put.requirement_noted,
    )
