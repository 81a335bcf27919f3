-- The constructors' checks: the one number of each, and when each passes, in plain logic.
-- Assumes nothing.
use mathlib.Core.Path.{◌≡◌}
use mathlib.Core.Logic.Iff
use mathlib.Core.Logic.{◌↔◌, inl, ⊎_elim}
use mathlib.Core.Bool.{So, and-eq-true_iff}
use Prim.Native.Nat.{ℕ, suc, ◌≤◌, ◌/◌, ◌%◌}
use native.Mathlib.Omega.{arith}
use borrow.Author.Tests.{eqb-true, eq-eqb}
use Rattle.figures.specs.declared.Place.TheVariants as place
use Rattle.figures.specs.Refusals.Outcome.{refused}
use Rattle.figures.specs.declared.Refusal.TheVariants.{Counts, TableLength, RunLength}
use Rattle.limits.specs.Limits.{within, counts_within, suite_of, most_conditions, most_requirements, most_runs}
use Rattle.lengths.specs.Lengths.{rows_within, row_bytes, rows_of, table_of, requirement_of, run_of, most_requirement_rows, most_table_rows, most_steps}
use Rattle.laws.proofs.Given.{within_means, Beyond, given_3}
use Rattle.laws.proofs.Order.{Passes, Numbered, test_numbered, test_passes}

abbrev pub Within : ℕ → ℕ → ℕ → Type 0
Within least most n = (least ≤ n) × (n ≤ most)

abbrev pub RightLength : ℕ → ℕ → Type 0
RightLength most bytes = (bytes % row_bytes ≡ 0) × Within 1 most (bytes / row_bytes)

length_right : (most bytes : ℕ) → So (rows_within most bytes) ↔ RightLength most bytes
length_right most bytes =
    Iff.trans (and-eq-true_iff _ _) (Iff.and (eqb-true _ _, eq-eqb _ _) (within_means 1 most (bytes / row_bytes)))

module _ (c q r : ℕ) where
  pub suite_numbered : Numbered (suite_of c q r) 3
  unfolding suite_of
  suite_numbered = test_numbered _ Counts (counts_within c q r)

  pub suite_passes : Passes (suite_of c q r) ↔ (Within 1 most_conditions c × (Within 1 most_requirements q × Within 1 most_runs r))
  unfolding suite_of
  suite_passes =
      Iff.trans (test_passes _ Counts (counts_within c q r))
      (Iff.trans (and-eq-true_iff _ _)
      (Iff.and (within_means 1 most_conditions c)
      (Iff.trans (and-eq-true_iff _ _) (Iff.and (within_means 1 most_requirements q) (within_means 1 most_runs r)))))

-- of a lone table or run only the conditions can be beyond their limits
pub lone_passes : (c : ℕ) → Passes (suite_of c 1 1) ↔ Within 1 most_conditions c
lone_passes c =
    Iff.trans (suite_passes c 1 1) (λ h. h.0, λ h. (h, ((omega arith, omega arith), (omega arith, omega arith))))

pub lone_refused : (c : ℕ) → (suite_of c 1 1 ≡ refused 3 place.None) ↔ Beyond 1 most_conditions c
lone_refused c =
    Iff.trans (given_3 c 1 1) (⊎_elim (λ h. h) (⊎_elim never never), inl)
  where
    never : {A : Type 0} {most : ℕ} → Beyond 1 (suc most) 1 → A
    never b = absurd (⊎_elim (λ l. omega arith) (λ l. omega arith) b)

module _ (bytes : ℕ) where
  pub table_numbered : Numbered (table_of bytes) 7
  unfolding rows_of
  table_numbered = test_numbered _ TableLength (rows_within most_table_rows bytes)

  pub table_passes : Passes (table_of bytes) ↔ RightLength most_table_rows bytes
  unfolding rows_of
  table_passes = Iff.trans (test_passes _ TableLength (rows_within most_table_rows bytes)) (length_right most_table_rows bytes)

  pub requirement_numbered : Numbered (requirement_of bytes) 7
  unfolding rows_of
  requirement_numbered = test_numbered _ TableLength (rows_within most_requirement_rows bytes)

  pub requirement_passes : Passes (requirement_of bytes) ↔ RightLength most_requirement_rows bytes
  unfolding rows_of
  requirement_passes = Iff.trans (test_passes _ TableLength (rows_within most_requirement_rows bytes)) (length_right most_requirement_rows bytes)

module _ (steps : ℕ) where
  pub run_numbered : Numbered (run_of steps) 10
  unfolding run_of
  run_numbered = test_numbered _ RunLength (within 1 most_steps steps)

  pub run_passes : Passes (run_of steps) ↔ Within 1 most_steps steps
  unfolding run_of
  run_passes = Iff.trans (test_passes _ RunLength (within 1 most_steps steps)) (within_means 1 most_steps steps)
