-- `log_words::word_of` meets its contract: the limits from the last one on make up the word, each as its lowest bit in its turn.
use native.Mathlib.Omega.{arith}
use mathlib.Core.Path.{◌≡◌, ◌∙◌, ap}
use mathlib.Core.Bool.{Bool, cond}
use mathlib.Core.List.{List}
use Prim.Native.Nat.{ℕ, ◌+◌, ◌-◌, ◌*◌, ◌^◌, ◌<◌}
use lib.IntN.{ℤ, pos}
use lib.ListN.{drop, get_or}
use mir.Syntax.{w32}
use mir.ValLaws.{to_z-of_z}
use Rattle.log_words.specs.StepWord.{holds_at, word_by}
use Rattle.log_words.proofs.Words.{word_none, turn, turn_fits}
use Rattle.std.proofs.Common.{rules}
use Rattle.log_words.proofs.word_of.Goals as goal
use Rattle.log_words.proofs.word_of.Goals.{After-low_bit}

module _ (c : After-low_bit) where
  abbrev gone : ℤ
  gone = c.args.travel.0

  abbrev limits : List ℤ
  limits = c.args.limits.now

  -- the bit that is added
  abbrev limit : ℤ
  limit = get_or limits (c.loop-c.c - 1) (pos 0)

  held : c.holds.result ≡ holds_at limit gone
  held = c.holds.ensures ∙ ap (λ (z : ℤ). holds_at z gone) (to_z-of_z w32 limit (search rules))

  bit : c.low_bit.result ≡ cond (holds_at limit gone) 1 0
  bit = c.low_bit.ensures ∙ ap (λ (b : Bool). cond {A = ℕ} b 1 0) held

  next : c.low_bit.result + 2 * c.loop-c.word ≡ word_by (drop (c.loop-c.c - 1) limits) gone
  next = turn gone limits c.loop-c.c c.loop-c.word c.low_bit.result c.loop-c-test.true c.loop-c.auto.c c.loop-c.invariant bit

  room : c.low_bit.result + 2 * c.loop-c.word < 2 ^ 32
  room = turn_fits gone limits c.loop-c.c c.loop-c.word c.low_bit.result c.loop-c-test.true c.loop-c.auto.c c.loop-c.invariant bit c.requires

pub loop-c-init : goal.loop-c-init
loop-c-init c = word_none c.args.travel.0 c.args.limits.now

pub overflow_mul-word : goal.overflow_mul-word
overflow_mul-word c = record { fits = omega (arith, room (goal.at.overflow_mul-word c).After-low_bit) }

pub overflow_add-word : goal.overflow_add-word
overflow_add-word c = record { fits = room (goal.at.overflow_add-word c).After-low_bit }

pub loop-c-preserved : goal.loop-c-preserved
loop-c-preserved c = next (goal.at.loop-c-preserved c).After-low_bit
