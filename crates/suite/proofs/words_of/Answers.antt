-- `suite::words_of` meets its contract: the words so far are pushed, one for each four bytes.
use native.Mathlib.Nat.{add-zero}
use native.Mathlib.Numerals.{add-one}
use native.Mathlib.Omega.{arith}
use mathlib.Core.List.{[], ◌∷◌, ◌++◌}
use mathlib.Core.Path.{◌∙◌, ap, ap₂}
use Prim.Native.Nat.{◌*◌, ◌/◌}
use lib.ListN.{length}
use Rattle.lengths.specs.Lengths.{most_steps}
use Rattle.figures.specs.Numbers.{tabulate}
use Rattle.laws.proofs.Parts.{rest_lent}
use Rattle.laws.proofs.Tabulated.{length_tabulate}
use Rattle.codec.proofs.Bytes.{taken}
use Rattle.little.specs.Little.{little_at}
use Rattle.layout.specs.Layout.{word_size}
use Rattle.suite_laws.proofs.Little.{read_there}
use Rattle.suite.proofs.words_of.Invariants.{word}
use Rattle.std.proofs.Common.{rules}
use Rattle.suite.proofs.words_of.Goals as goal

pub loop-i-init : goal.loop-i-init
unfolding tabulate
loop-i-init c = search rules

pub push-requires : goal.push-requires
push-requires c =
    let q = c.loop-i in
    omega (arith, ap length q.invariant, length_tabulate (word c.args.bytes.now) q.i, c.min-i-end.ensures)

pub loop-i-preserved : goal.loop-i-preserved
unfolding tabulate
loop-i-preserved c =
    let q = c.loop-i in
    let bytes = c.args.bytes.now in
    let at = word_size * q.i in
    let there = c.word_of.ensures ∙ ap (λ l. little_at word_size l 0) (rest_lent at bytes) ∙ read_there word_size bytes at 0 ∙ ap (little_at word_size bytes) (add-zero at) in
    rw add-one (c.push.ensures.items ∙ ap₂ (λ words v. words ++ (v ∷ [])) q.invariant there)

pub returns : goal.returns
returns c =
    let q = c.loop-i in
    let bytes = c.args.bytes.now in
    q.invariant ∙ taken (word bytes) (length bytes / word_size) most_steps q.i (omega (arith, c.min-i-end.ensures))
