-- `suite::words_of` meets its contract: the words so far are pushed, one for each four bytes.
use mathlib.Core.Path.{◌≡◌}
use mathlib.Core.List.{List}
use Prim.Native.Nat.{ℕ, ◌*◌}
use Rattle.figures.specs.Numbers.{tabulate}
use Rattle.little.specs.Little.{little_at}
use Rattle.layout.specs.Layout.{word_size}
use Rattle.suite.proofs.words_of.Given as goal

abbrev pub word : List ℕ → ℕ → ℕ
word bytes i = little_at word_size bytes (word_size * i)

abbrev pub invariant-loop-i : goal.invariant-loop-i
invariant-loop-i l = l.words.items ≡ tabulate l.i (word l.bytes)
