-- Document 01, "Examples to reckon with": those marked P, as one statement about the definitions.
-- Assumes nothing.
use Rattle.std.specs.Prelude.{◌≡◌, Bool, true, false, List, [], ◌∷◌, ◌++◌, ℕ, ◌+◌, ◌^◌, length, get_or}
use Rattle.rows.specs.Rows.{Row, row}
use Rattle.rows.specs.Checks.{occurrences}
use Rattle.signals.specs.Truth.{reads_of, holds}
use Rattle.rules.specs.TrapRows.{trap_table}
use Rattle.coverage.specs.Coverage.{covered}

-- "Conditions a, b, c are 0, 1, 2; a step is a set"
abbrev pub a : ℕ
a = 0

abbrev pub b : ℕ
b = 1

abbrev pub c : ℕ
c = 2

abbrev pub step : List ℕ → ℕ
step [] = 0
step (condition ∷ more) = 2 ^ condition + step more

-- the requirements of the examples
abbrev pub finally_a_or_b : List Row
finally_a_or_b = row 2 a 0 ∷ row 2 b 0 ∷ row 5 0 1 ∷ row 10 2 0 ∷ []

abbrev pub a_or_b_until_c : List Row
a_or_b_until_c = row 2 a 0 ∷ row 2 b 0 ∷ row 5 0 1 ∷ row 2 c 0 ∷ row 8 2 3 ∷ []

abbrev pub weak_next_a : List Row
weak_next_a = row 2 a 0 ∷ row 7 0 0 ∷ []

abbrev pub strong_next_a : List Row
strong_next_a = row 2 a 0 ∷ row 6 0 0 ∷ []

abbrev pub a_release_b : List Row
a_release_b = row 2 a 0 ∷ row 2 b 0 ∷ row 9 0 1 ∷ []

abbrev pub a_or_a : List Row
a_or_a = row 2 a 0 ∷ row 2 a 0 ∷ row 5 0 1 ∷ []

abbrev pub a_and_a : List Row
a_and_a = row 2 a 0 ∷ row 2 a 0 ∷ row 4 0 1 ∷ []

abbrev pub a_or_not_a : List Row
a_or_not_a = row 2 a 0 ∷ row 2 a 0 ∷ row 3 1 0 ∷ row 5 0 2 ∷ []

-- the runs of the examples
abbrev pub none_a_b : List ℕ
none_a_b = step [] ∷ step (a ∷ []) ∷ step (b ∷ []) ∷ []

abbrev pub none_a_none : List ℕ
none_a_none = step [] ∷ step (a ∷ []) ∷ step [] ∷ []

abbrev pub only_a : List ℕ
only_a = step (a ∷ []) ∷ []

abbrev pub b_ab_none : List ℕ
b_ab_none = step (b ∷ []) ∷ step (a ∷ b ∷ []) ∷ step [] ∷ []

abbrev pub b_ab : List ℕ
b_ab = step (b ∷ []) ∷ step (a ∷ b ∷ []) ∷ []

abbrev pub ab_ac : List ℕ
ab_ac = step (a ∷ b ∷ []) ∷ step (a ∷ c ∷ []) ∷ []

-- whether a run covers an occurrence
abbrev pub covers : List Row → List ℕ → ℕ → Bool
covers rows run occurrence = covered rows (reads_of rows run) (length run) (get_or (occurrences rows) occurrence 0)

-- examples 1 to 6, those marked P
pub record Examples : Type 0 where
  pub example_1 : holds finally_a_or_b none_a_b ≡ true
  pub example_1_a : covers finally_a_or_b none_a_b 0 ≡ false
  pub example_1_b : covers finally_a_or_b none_a_b 1 ≡ false
  pub example_2 : holds finally_a_or_b none_a_none ≡ true
  pub example_2_a : covers finally_a_or_b none_a_none 0 ≡ true
  pub example_2_trap :
      trap_table finally_a_or_b 0
      ≡ finally_a_or_b ++ (row 3 1 0 ∷ row 4 0 4 ∷ row 3 2 0 ∷ row 5 6 5 ∷ row 11 7 0 ∷ row 4 3 8 ∷ [])
  pub example_3_fails : holds a_or_b_until_c (step (a ∷ b ∷ []) ∷ step (a ∷ []) ∷ step (b ∷ []) ∷ []) ≡ false
  pub example_3_holds : holds a_or_b_until_c ab_ac ≡ true
  pub example_3_a : covers a_or_b_until_c ab_ac 0 ≡ false
  pub example_3_b : covers a_or_b_until_c ab_ac 1 ≡ false
  pub example_3_c : covers a_or_b_until_c ab_ac 2 ≡ true
  pub example_4_weak : holds weak_next_a (step [] ∷ []) ≡ true
  pub example_4_uncovered : covers weak_next_a (step [] ∷ []) 0 ≡ false
  pub example_4_covered : covers weak_next_a (step [] ∷ step (a ∷ []) ∷ []) 0 ≡ true
  pub example_4_strong : holds strong_next_a (step [] ∷ []) ≡ false
  pub example_5 : holds a_release_b b_ab_none ≡ true
  pub example_5_a : covers a_release_b b_ab_none 0 ≡ true
  pub example_5_without_a : covers a_release_b b_ab 0 ≡ false
  pub example_5_without_b : covers a_release_b b_ab 1 ≡ true
  pub example_6_or_0 : covers a_or_a only_a 0 ≡ false
  pub example_6_or_1 : covers a_or_a only_a 1 ≡ false
  pub example_6_and_0 : covers a_and_a only_a 0 ≡ true
  pub example_6_and_1 : covers a_and_a only_a 1 ≡ true
  pub example_6_not : covers a_or_not_a only_a 0 ≡ true
