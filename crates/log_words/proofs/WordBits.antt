-- The bits of a step's word: bit c says whether travel is at least limit c, and there is no bit past the limits.
-- Assumes nothing.
use mathlib.Core.Path.{◌≡◌, sym, ◌∙◌, ap}
use mathlib.Core.Bool.{Bool, true, false, cond, So}
use mathlib.Core.List.{List, [], ◌∷◌}
use Prim.Native.Nat.{ℕ, zero, suc, ◌+◌, ◌*◌, ◌^◌, ◌/◌, ◌%◌, ◌≤◌, ◌<◌}
use native.Mathlib.Omega.{arith}
use native.Mathlib.Nat.{div-eq_of_lt, div-div-eq-div-mul, pow-succ'}
use borrow.Author.Tests.{eq-eqb, ne_eqb, lt-ltb}
use lib.Dec.{eqb}
use lib.IntN.{ℤ, pos}
use lib.ListN.{length, get_or}
use Rattle.limits.specs.Limits.{most_conditions}
use Rattle.signals.specs.Truth.{bit, word_sound}
use Rattle.signals.proofs.Bits.{clear_from}
use Rattle.log_words.specs.StepWord.{holds_at, word_by}
use Rattle.log_words.proofs.Words.{bit_less, word_less, word_fits}

-- the lowest bit of a word, and the others
lowest : (b : Bool) (rest : ℕ) → eqb ((cond b 1 0 + 2 * rest) / 1 % 2) 1 ≡ b
lowest true rest = eq-eqb ((1 + 2 * rest) / 1 % 2) 1 (omega arith)
lowest false rest = ne_eqb ((0 + 2 * rest) / 1 % 2) 1 (λ e. omega arith)

others : (b : Bool) (rest c : ℕ) → (cond b 1 0 + 2 * rest) / 2 ^ suc c ≡ rest / 2 ^ c
others b rest c =
    let half : (cond b 1 0 + 2 * rest) / 2 ≡ rest = omega (arith, bit_less b) in
    ap (λ (k : ℕ). (cond b 1 0 + 2 * rest) / k) (pow-succ' 2 c)
    ∙ sym (div-div-eq-div-mul (cond b 1 0 + 2 * rest) 2 (2 ^ c))
    ∙ ap (λ (k : ℕ). k / 2 ^ c) half

module _ (gone : ℤ) where
  by_place : (limits : List ℤ) (c : ℕ) → c < length limits → eqb (word_by limits gone / 2 ^ c % 2) 1 ≡ holds_at (get_or limits c (pos 0)) gone
  unfolding word_by
  by_place [] c l = absurd (omega arith)
  by_place (limit ∷ limits) zero l = lowest (holds_at limit gone) (word_by limits gone)
  by_place (limit ∷ limits) (suc c) l =
      ap (λ (k : ℕ). eqb (k % 2) 1) (others (holds_at limit gone) (word_by limits gone) c) ∙ by_place limits c (omega arith)

  module _ (limits : List ℤ) (few : length limits ≤ most_conditions) where
    pub word_bit : (c : ℕ) → c < length limits → bit (word_by limits gone) c ≡ holds_at (get_or limits c (pos 0)) gone
    unfolding bit
    word_bit c l = rw (lt-ltb c most_conditions (omega arith)) (by_place limits c l)

    pub word_sound_lem : So (word_sound (length limits) (word_by limits gone))
    word_sound_lem =
        let word = word_by limits gone in
        sym (clear_from word (word_fits gone limits most_conditions few) (length limits) few)
        ∙ eq-eqb (word / 2 ^ length limits) 0 (div-eq_of_lt (word_less gone limits))
