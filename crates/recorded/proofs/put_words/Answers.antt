-- `recorded::put_words` meets its contract: the words passed are the run's, those after them are as they were, and travel is the log's.
use native.Mathlib.Omega.{arith}
use native.Mathlib.Numerals.{add-one}
use mathlib.Core.Path.{refl, sym, ◌∙◌, ap}
use Rattle.encoder.specs.Log.{travel}
use Rattle.recorded.proofs.Filling.{length_out, word_put, all_put}
use Rattle.recorded.proofs.put_words.Goals as goal

pub loop-i-init : goal.loop-i-init
unfolding travel
loop-i-init c = (c.requires.2, refl, refl)

pub bounds-out-i : goal.bounds-out-i
bounds-out-i c =
    let q = c.loop-i in
    let a = c.args in
    omega (arith, length_out a.limits.now a.log.now a.out.now q.invariant.0 q.i q.invariant.1 c.loop-i.auto.i-end)

pub loop-i-preserved : goal.loop-i-preserved
loop-i-preserved c =
    let q = c.loop-i in
    let a = c.args in (
      q.invariant.0,
      word_put a.limits.now a.log.now a.out.now q.invariant.0 q.i q.invariant.1 (omega arith) q.invariant.2 c.word_of.ensures,
      c.travel_after-travel.ensures ∙ ap (travel a.log.now) (sym (add-one q.i)),
    )

pub returns : goal.returns
returns c =
    let q = c.loop-i in
    let a = c.args in
    all_put a.limits.now a.log.now a.out.now q.invariant.0 q.i q.invariant.1 (omega arith)
