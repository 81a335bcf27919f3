-- The bits of a word from a place on are 0 exactly where the word, shifted down so far, is 0.
-- Assumes nothing.
use mathlib.Core.Path.{◌≡◌, sym, ◌∙◌, ap, ap₂}
use mathlib.Core.Bool.{Bool, true, not, ◌&&◌}
use Prim.Native.Nat.{ℕ, zero, suc, ◌+◌, ◌-◌, ◌^◌, ◌/◌, ◌%◌, ◌<◌, ◌≤◌}
use native.Mathlib.Omega.{arith}
use native.Mathlib.Decide.{ℕ_discrete}
use native.Mathlib.Nat.{div-eq_of_lt, div-div-eq-div-mul, pow-succ', mul_comm}
use borrow.Author.Tests.{eq-eqb, ne_eqb, lt-ltb}
use lib.Dec.{eqb}
use Rattle.limits.specs.Limits.{most_conditions}
use Rattle.signals.specs.Signals.{every}
use Rattle.signals.specs.Truth.{bit, word_sound}

-- a number is 0 exactly where its lowest bit and its other bits are
lowest_bit : (q : ℕ) → eqb q 0 ≡ not (eqb (q % 2) 1) && eqb (q / 2) 0
lowest_bit q = go (ℕ_discrete q 0) (ℕ_discrete (q % 2) 1)
  where
    go : Dec (q ≡ 0) → Dec (q % 2 ≡ 1) → eqb q 0 ≡ not (eqb (q % 2) 1) && eqb (q / 2) 0
    go (yes z) o = rw z
    go (no z) (yes o) = rw (ne_eqb q 0 z, eq-eqb (q % 2) 1 o)
    go (no z) (no o) = rw (ne_eqb q 0 z, ne_eqb (q % 2) 1 o, ne_eqb (q / 2) 0 (λ e. omega arith))

module _ (word : ℕ) (fits : word < 2 ^ most_conditions) where
  from : (m c : ℕ) → c + m ≡ most_conditions → eqb (word / 2 ^ c) 0 ≡ every m c (λ b. not (bit word b))
  unfolding every bit
  from zero c e =
      let last : c ≡ most_conditions = omega arith in
      eq-eqb (word / 2 ^ c) 0 (ap (λ (k : ℕ). word / 2 ^ k) last ∙ div-eq_of_lt fits)
  from (suc m) c e =
      let half : word / 2 ^ suc c ≡ word / 2 ^ c / 2 =
      ap (λ (k : ℕ). word / k) (pow-succ' 2 c ∙ mul_comm 2 (2 ^ c)) ∙ sym (div-div-eq-div-mul word (2 ^ c) 2) in
      lowest_bit (word / 2 ^ c)
      ∙ ap₂ ◌&&◌
      (ap (λ (t : Bool). not (t && eqb (word / 2 ^ c % 2) 1)) (sym (lt-ltb c most_conditions (omega arith))))
      (ap (λ (k : ℕ). eqb k 0) (sym half) ∙ from m (suc c) (omega arith))

  pub clear_from : (c : ℕ) → c ≤ most_conditions → eqb (word / 2 ^ c) 0 ≡ word_sound c word
  clear_from c l = from (most_conditions - c) c (omega arith)

-- past the last bit there is none
pub clear_past : (word c : ℕ) → most_conditions ≤ c → true ≡ word_sound c word
unfolding every
clear_past word c l = let none : most_conditions - c ≡ 0 = omega arith in rw none
