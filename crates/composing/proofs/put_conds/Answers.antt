-- `composing::put_conds` meets its contract: the lines of the conditions passed stand in order.
use native.Mathlib.Omega.{arith}
use mathlib.Core.Path.{◌≡◌, ◌∙◌, ap}
use mathlib.Core.Bool.{Bool}
use mathlib.Core.List.{List, ◌++◌}
use Prim.Native.Nat.{ℕ}
use Rattle.bench.specs.declared.ConditionAnswer.{ConditionAnswer}
use Rattle.bench.specs.Coverage.{Bench}
use Rattle.bench.specs.Files.{bench_of}
use Rattle.bench.specs.Sheet.{cond_line}
use Rattle.lines.proofs.InOrder.{turn_none, turn_room, turn_more}
use Rattle.composing.proofs.Noted.{noted_answer}
use Rattle.composing.proofs.put_conds.Goals as goal

by_all :
    (b : Bench) (notes : List Bool) (c : ℕ) {answer : ConditionAnswer} {m : ℕ} → answer ≡ noted_answer b notes c m → m ≡ b.requirements →
    answer ≡ noted_answer b notes c b.requirements
by_all b notes c e is = e ∙ ap (noted_answer b notes c) is

pub loop-c-init : goal.loop-c-init
loop-c-init g c = turn_none _ 15 c.args.page.now.text.items

pub put_cond_line-requires : goal.put_cond_line-requires
put_cond_line-requires g c =
    let fits = c.well_formed in
    let requirements = c.args.requirements in (
      omega arith,
      (
        omega (arith, requirements.ready.few_conditions, requirements.conditions_counted),
        turn_room c.loop-c.invariant c.requires c.loop-c-test.true,
      ),
    )

pub loop-c-preserved : goal.loop-c-preserved
loop-c-preserved g c =
    let loop = c.loop-c in
    let requirements = c.args.requirements in
    let file = requirements.file.now in
    let answer = by_all (bench_of file file) c.args.notes.now.cells loop.c c.answer-answer.ensures requirements.counted in
    let put = c.put_cond_line.ensures in
    turn_more loop.invariant (put.puts ∙ ap (λ (a : ConditionAnswer). loop.page.text.items ++ cond_line loop.c a) answer) put.ends
