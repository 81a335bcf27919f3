-- `blocks::block_words` meets its contract: the words stored are the run's from the block's first step on.
use native.Mathlib.Omega.{arith}
use mathlib.Core.Path.{◌≡◌, ◌∙◌}
use Prim.Native.Nat.{◌+◌}
use lib.ListN.{get_or}
use Rattle.layout.specs.Checks.{words_of}
use Rattle.blocks.proofs.Stored.{stored_more}
use Rattle.suite_laws.proofs.Words.{step_word}
use Rattle.std.proofs.Common.{rules}
use Rattle.blocks.proofs.block_words.Goals as goal

pub loop-t-preserved : goal.loop-t-preserved
loop-t-preserved c =
    let q = c.loop-t in
    let a = c.args in
    let run = a.run.now in (
      search rules,
      stored_more (λ t w. w ≡ get_or (words_of run) (a.from + t) 0) q.words q.t c.word_of.result (omega arith) q.invariant.1
          (c.word_of.ensures ∙ step_word run (a.from + q.t) (omega arith)),
    )
