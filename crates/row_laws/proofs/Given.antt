-- Refusals 8, 9 and 14 of this room are given exactly when document 01 says, and its answers are unique.
-- Assumes nothing.
use mathlib.Core.Path.{◌≡◌, refl}
use mathlib.Core.Logic.Iff
use mathlib.Core.Logic.{◌↔◌}
use mathlib.Core.Bool.{◌&&◌}
use mathlib.Core.List.{List}
use Rattle.std.specs.Prelude.{Option, None, Some, Result}
use Prim.Native.Nat.{ℕ, ◌*◌, ◌/◌, ◌≤◌, ◌<◌}
use native.Mathlib.Omega.{arith}
use borrow.Author.Tests.{leb-true, le-leb}
use lib.ListN.{length}
use Rattle.figures.specs.declared.Place.{Place}
use Rattle.figures.specs.declared.Place.TheVariants as place
use Rattle.figures.specs.declared.ByteCount.{ByteCount}
use Rattle.figures.specs.declared.RowNumber.{RowNumber}
use Rattle.figures.specs.declared.Refusal.{Refusal}
use Rattle.figures.specs.declared.Refusal.TheVariants.{UnsoundRow, NotRequirement, ShortOutput}
use Rattle.figures.specs.Refusals.{Outcome, printed_place}
use Rattle.figures.specs.Refusals.Outcome.{refused, gives}
use Rattle.lengths.specs.Lengths.{row_bytes}
use Rattle.laws.proofs.Given.{refused_when, over_means}
use Rattle.laws.proofs.Lowest.{Lowest}
use Rattle.laws.proofs.Order.{Numbered, test_numbered, test_gives, lowest_refused}
use Rattle.laws.proofs.Unique.{one_answer, result_unique}
use Rattle.rows.specs.Rows.{Row, row_at}
use Rattle.codec.specs.Codec.{encoded_says, encode_of, fits}
use Rattle.rows.specs.Checks.{lone_row, row_sound, named_once, not_over_condition, rows_checked, requirement_checked, found_row}

-- the place of a row
abbrev pub at_row : ℕ → Place
at_row r = place.Row (record { 0 = r })

pub given_8 :
    (conditions : ℕ) (rows : List Row) (r : ℕ) →
    (rows_checked conditions rows ≡ refused 8 (at_row r)) ↔ Lowest (λ r. row_sound conditions r (row_at rows r)) (length rows) 0 r
given_8 conditions rows = lowest_refused (λ r. UnsoundRow (lone_row r)) _ _ 8 at_row printed_place (λ k. refl) (λ k. refl)

pub given_9 :
    (rows : List Row) (r : ℕ) →
    (requirement_checked rows ≡ refused 9 (at_row r)) ↔ Lowest (λ r. named_once rows r && not_over_condition rows r) (length rows) 0 r
given_9 rows = lowest_refused (λ r. NotRequirement (lone_row r)) _ _ 9 at_row printed_place (λ k. refl) (λ k. refl)

-- 14 where three bytes a row are more than there is room for, and else so many are written
module _ (rows : List Row) (room : ℕ) where
  pub given_14 : (encode_of rows room ≡ refused 14 place.None) ↔ (room < row_bytes * length rows)
  unfolding encode_of
  given_14 =
      Iff.trans (refused_when _ ShortOutput (fits rows room))
      (Iff.trans (over_means (length rows) (room / row_bytes)) (λ l. omega arith, λ l. omega arith))

  pub given_written : (n : ℕ) → (encode_of rows room ≡ gives n) ↔ ((row_bytes * length rows ≤ room) × (row_bytes * length rows ≡ n))
  unfolding encode_of
  given_written n =
      Iff.trans (test_gives _ ShortOutput (fits rows room) n)
      (Iff.and
      (λ t. let e = leb-true (length rows) (room / row_bytes) t in omega arith, λ l. le-leb (length rows) (room / row_bytes) (omega arith))
      Iff.rfl)

  pub encode_numbered : Numbered (encode_of rows room) 14
  unfolding encode_of
  encode_numbered = test_numbered _ ShortOutput (fits rows room)

-- a search's answer, and a write's, are determined by what they say
found_row_lem : Option ℕ → Option RowNumber
found_row_lem None = None
found_row_lem (Some r) = Some (record { 0 = r })

pub found_unique : {a b : Option RowNumber} {o : Option ℕ} → found_row a ≡ o → found_row b ≡ o → a ≡ b
unfolding found_row_lem
found_unique = one_answer found_row found_row_lem read
  where
    read : (a : Option RowNumber) → found_row_lem (found_row a) ≡ a
    read (Some r) = refl
    read None = refl

pub encoded_unique : {a b : Result ByteCount Refusal} {o : Outcome ℕ} → encoded_says a ≡ o → encoded_says b ≡ o → a ≡ b
encoded_unique = result_unique (λ b. b.0) (λ n. record { 0 = n }) (λ b. refl)
