-- `composing::put_blocks` meets its contract: the blocks of the requirements passed stand in order, and their notes are right.
use Rattle.bench.specs.Files.{bench_of}
use Rattle.bench.specs.Longest.{block_most}
use Rattle.bench.specs.Sheet.{block_of}
use Rattle.bench.specs.Tables.{SuiteNoted}
use Rattle.lines.proofs.InOrder.{InTurn}
use Rattle.composing.proofs.put_blocks.Given as goal

abbrev pub invariant-loop-q : goal.invariant-loop-q
invariant-loop-q g l =
    InTurn (block_of (bench_of l.requirements.file.now l.runs.file.now)) block_most l.initial.page.text.items l.q l.page.text.items
    × SuiteNoted (bench_of l.requirements.file.now l.runs.file.now) l.q l.notes.cells
