-- A lone requirement is taken: 3, 7, 8 and 9 in order, in plain logic.
-- Assumes nothing.
use mathlib.Core.Path.{◌≡◌, refl}
use mathlib.Core.Logic.Iff
use mathlib.Core.Logic.{◌↔◌}
use mathlib.Core.Bool.{◌&&◌}
use mathlib.Core.List.{List}
use Prim.Native.Nat.{ℕ, ◌<◌}
use native.Mathlib.Omega.{arith}
use lib.ListN.{length}
use Rattle.figures.specs.declared.Place.TheVariants as place
use Rattle.figures.specs.declared.Refusal.TheVariants.{UnsoundRow, NotRequirement}
use Rattle.figures.specs.Refusals.{Outcome, ◌then◌}
use Rattle.figures.specs.Refusals.Outcome.{refused}
use Rattle.limits.specs.Limits.{most_conditions}
use Rattle.lengths.specs.Lengths.{most_requirement_rows}
use Rattle.laws.proofs.Given.{Beyond, WrongLength, given_7_requirement}
use Rattle.laws.proofs.Lowest.{Lowest}
use Rattle.laws.proofs.Order.{Passes, Numbered, Never, numbered_never, never_gives, never_by, never_then, skip, skip_never, stop, both_pass, lowest_numbered, lowest_passes}
use Rattle.laws.proofs.Passed.{Within, RightLength, suite_numbered, lone_passes, lone_refused, requirement_numbered}
use Rattle.rows.specs.Rows.{Row, row_at}
use Rattle.codec.specs.Codec.{rows_of}
use Rattle.rows.specs.Checks.{lone_row, row_sound, named_once, not_over_condition, rows_checked, requirement_checked, requirement_rows, requirement_sized}
use Rattle.row_laws.proofs.Given.{at_row, given_8 as row_unsound, given_9 as row_unrequired}
use Rattle.row_laws.proofs.Sized.{requirement_sized_lem}
use Rattle.row_laws.proofs.Sound.{Sound, Required}

module _ (conditions : ℕ) (requirement : List ℕ) where
  abbrev rows : List Row
  rows = rows_of requirement

  abbrev pub taken : Outcome (Unit {0})
  taken = requirement_sized conditions (length requirement) then λ _. requirement_rows conditions rows

  -- 3 and 7 passed; and 8 and 9
  abbrev pub RequirementSized : Type 0
  RequirementSized = Within 1 most_conditions conditions × RightLength most_requirement_rows (length requirement)

  abbrev pub Taken : Type 0
  Taken = RequirementSized × (Sound conditions rows × Required rows)

  pub taken_passes : Passes taken ↔ Taken
  taken_passes =
      Iff.trans (both_pass _ _)
      (Iff.and (requirement_sized_lem conditions (length requirement))
      (Iff.trans (both_pass _ _) (Iff.and (lowest_passes (λ r. UnsoundRow (lone_row r)) _ _) (lowest_passes (λ r. NotRequirement (lone_row r)) _ _))))

  -- the numbers that are given
  unsound_8 : Numbered (rows_checked conditions rows) 8
  unsound_8 = lowest_numbered (λ x. UnsoundRow (lone_row x)) _ _ 8 (λ k. refl)

  unrequired_9 : Numbered (requirement_checked rows) 9
  unrequired_9 = lowest_numbered (λ x. NotRequirement (lone_row x)) _ _ 9 (λ k. refl)

  never_sized : (n : ℕ) → 7 < n → Never n (requirement_sized conditions (length requirement))
  never_sized n l =
      never_then _ n _ (suite_numbered conditions 1 1) (λ e. omega arith)
      (never_then _ n _ (requirement_numbered (length requirement)) (λ e. omega arith) (never_gives n _))

  never_rows : (n : ℕ) → (8 ≡ n → ⊥) → (9 ≡ n → ⊥) → Never n (requirement_rows conditions rows)
  never_rows n d e = never_then _ n _ unsound_8 d (numbered_never n _ unrequired_9 e)

  pub never_taken : (n : ℕ) → 9 < n → Never n taken
  never_taken n l =
      never_by _ n _ (never_sized n (omega arith)) (λ _. never_rows n (λ e. omega arith) (λ e. omega arith))

  -- each of them exactly when document 01 says
  pub given_3 : (taken ≡ refused 3 place.None) ↔ Beyond 1 most_conditions conditions
  given_3 =
      Iff.trans (stop _ 3 _ _ (never_rows 3 (λ e. omega arith) (λ e. omega arith)))
      (Iff.trans
      (stop _ 3 _ _ (never_then _ 3 _ (requirement_numbered (length requirement)) (λ e. omega arith) (never_gives 3 _)))
      (lone_refused conditions))

  pub given_7 : (taken ≡ refused 7 place.None) ↔ (Within 1 most_conditions conditions × WrongLength most_requirement_rows (length requirement))
  given_7 =
      Iff.trans (stop _ 7 _ _ (never_rows 7 (λ e. omega arith) (λ e. omega arith)))
      (Iff.trans (skip _ 7 _ _ (suite_numbered conditions 1 1) (λ e. omega arith))
      (Iff.and (lone_passes conditions)
      (Iff.trans (stop _ 7 _ _ (never_gives 7 _)) (given_7_requirement (length requirement)))))

  pub given_8 :
      (r : ℕ) →
      (taken ≡ refused 8 (at_row r)) ↔ (RequirementSized × Lowest (λ r. row_sound conditions r (row_at rows r)) (length rows) 0 r)
  given_8 r =
      Iff.trans (skip_never _ 8 _ _ (never_sized 8 (omega arith)))
      (Iff.and (requirement_sized_lem conditions (length requirement))
      (Iff.trans (stop _ 8 _ _ (numbered_never 8 _ unrequired_9 (λ e. omega arith))) (row_unsound conditions rows r)))

  pub given_9 :
      (r : ℕ) →
      (taken ≡ refused 9 (at_row r))
      ↔ (RequirementSized × (Sound conditions rows × Lowest (λ r. named_once rows r && not_over_condition rows r) (length rows) 0 r))
  given_9 r =
      Iff.trans (skip_never _ 9 _ _ (never_sized 9 (omega arith)))
      (Iff.and (requirement_sized_lem conditions (length requirement))
      (Iff.trans (skip _ 9 _ _ unsound_8 (λ e. omega arith)) (Iff.and (lowest_passes (λ x. UnsoundRow (lone_row x)) _ _) (row_unrequired rows r))))
