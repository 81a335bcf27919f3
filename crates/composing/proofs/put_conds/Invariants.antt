-- `composing::put_conds` meets its contract: the lines of the conditions passed stand in order.
use Rattle.layout.specs.Layout.{requirements_in}
use Rattle.bench.specs.Files.{bench_of}
use Rattle.bench.specs.Longest.{cond_line_most}
use Rattle.bench.specs.Sheet.{cond_line}
use Rattle.lines.proofs.InOrder.{InTurn}
use Rattle.composing.proofs.Noted.{noted_answer}
use Rattle.composing.proofs.put_conds.Given as goal

abbrev pub invariant-loop-c : goal.invariant-loop-c
invariant-loop-c g l =
    InTurn (λ i. cond_line i (noted_answer (bench_of l.requirements.file.now l.requirements.file.now) l.notes.cells i (requirements_in l.requirements.file.now)))
    cond_line_most l.initial.page.text.items l.c l.page.text.items
