-- `blocks::judge` meets its contract: after each turn the later column is right for the step in hand in every lane.
use native.Mathlib.Omega.{arith}
use mathlib.Core.Path.{◌≡◌, sym, ap}
use Prim.Native.Nat.{◌-◌}
use lib.Dec.{eqb}
use lib.ListN.{length}
use Rattle.layout.specs.Checks.{words_of}
use Rattle.suite_laws.proofs.Words.{length_words_of}
use Rattle.blocks.proofs.Stepped.{column_more}
use Rattle.blocks.proofs.judge.Goals as goal

pub loop-i-preserved : goal.loop-i-preserved
loop-i-preserved c =
    let put = c.put_lines in
    let read = c.block_words-words in
    let count = c.steps_before-count.result in
    let q = c.loop-i in
    let a = c.args in
    let run = words_of a.run.now in
    let many = length_words_of a.run.now in (
      omega arith,
      put.ensures.lines_len,
      λ h.
          column_more a.rows.now a.keep.now a.flips.now run q.after read.result put.new.lines
          c.first_column-after.result (q.i - count) count q.i c.requires.0.few c.steps_before-count.ensures.0 (omega arith)
          (omega arith) (ap (eqb q.i) (sym many)) read.ensures (λ l. q.invariant.2 (omega arith)) put.ensures.block_true c.first_column-after.ensures,
    )

pub returns-clause-by_index : goal.returns-clause-by_index
returns-clause-by_index c =
    let q = c.loop-i in
    let first : q.i ≡ 0 = omega arith in
    let many = length_words_of c.args.run.now in
    let last = length c.args.rows.now - 1 in
    λ k l. rw first at (q.invariant.2 (omega (arith, c.requires.2)) last (omega (arith, c.requires.1)) k l)
