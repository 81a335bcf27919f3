-- `log_words::word_of` meets its contract: the limits from the last one on make up the word, each as its lowest bit in its turn.
use mathlib.Core.Path.{◌≡◌}
use lib.ListN.{drop}
use Rattle.log_words.specs.StepWord.{word_by}
use Rattle.log_words.proofs.word_of.Given as goal

abbrev pub invariant-loop-c : goal.invariant-loop-c
invariant-loop-c l = l.word ≡ word_by (drop l.c l.limits) l.travel.0
