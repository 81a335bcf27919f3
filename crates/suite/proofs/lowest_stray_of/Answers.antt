-- `suite::lowest_stray_of` meets its contract: every step passed is sound, so the first that is not is the lowest.
use native.Mathlib.Omega.{arith}
use mathlib.Core.Path.{◌≡◌, sym, ◌∙◌, ap}
use mathlib.Core.Bool.{Bool}
use mathlib.Core.List.{List}
use Prim.Native.Nat.{ℕ, ◌-◌, ◌*◌, ◌/◌, ◌<◌}
use lib.ListN.{length, take, drop}
use Rattle.laws.proofs.Lowest.{passed_more, stopped_at, passed_all}
use Rattle.signals.specs.Truth.{word_sound}
use Rattle.little.specs.Little.{little_at}
use Rattle.layout.specs.Layout.{word_size}
use Rattle.layout.specs.Checks.{words_of}
use Rattle.suite_laws.proofs.Words.{length_words_of, step_word}
use Rattle.suite.proofs.lowest_stray_of.Invariants.{sound}
use Rattle.suite.proofs.lowest_stray_of.Goals as goal

-- the word that is read is the step's
read_sound :
    (body : List ℕ) (conditions i : ℕ) {word : ℕ} {is : Bool} → i < length body / word_size →
    word ≡ little_at word_size (take (length body - word_size * i) (drop (word_size * i) body)) 0 → is ≡ word_sound conditions word →
    sound body conditions i ≡ is
read_sound body conditions i l e s = sym (s ∙ ap (word_sound conditions) (e ∙ step_word body i l))

pub returns-then-not-word_sound : goal.returns-then-not-word_sound
returns-then-not-word_sound c =
    let q = c.loop-i in
    let body = c.args.body.now in
    let conditions = c.args.conditions.0 in
    stopped_at (sound body conditions) (length (words_of body)) q.i q.invariant (omega (arith, length_words_of body))
    (read_sound body conditions q.i c.loop-i-test.true c.word_of-word.ensures c.word_sound.ensures ∙ c.if-not-word_sound.true)

pub loop-i-preserved : goal.loop-i-preserved
loop-i-preserved c =
    let q = c.loop-i in
    let body = c.args.body.now in
    let conditions = c.args.conditions.0 in
    passed_more (sound body conditions) q.i q.invariant
    (read_sound body conditions q.i c.loop-i-test.true c.word_of-word.ensures c.word_sound.ensures ∙ c.if-not-word_sound.false)

pub returns : goal.returns
returns c =
    let q = c.loop-i in
    let body = c.args.body.now in
    passed_all (sound body c.args.conditions.0) (length (words_of body)) q.i q.invariant (omega (arith, length_words_of body, c.loop-i-test.false))
