-- A requirement's rows: what passes in a file passes alone, and the rows as bytes, written and read back.
-- Assumes nothing.
use Rattle.figures.specs.declared.RowPlace.TheVariants.{File}
use Rattle.figures.specs.declared.Refusal.TheVariants.{UnsoundRow, NotRequirement}
use mathlib.Core.Path.{◌≡◌, refl, ap, subst}
use mathlib.Core.Logic.Iff
use mathlib.Core.Logic.{◌↔◌}
use mathlib.Core.Bool.{So, false≢true}
use mathlib.Core.List.{List, [], ◌∷◌, ◌++◌}
use Prim.Native.Nat.{ℕ, zero, suc, ◌≤◌, ◌<◌}
use native.Mathlib.Omega.{arith}
use native.Mathlib.Decide.{dec_lt}
use lib.ListN.{length, get_or}
use Rattle.figures.specs.declared.Refusal.{Refusal}
use Rattle.figures.specs.Refusals.{◌then◌}
use Rattle.limits.specs.Limits.{most_conditions}
use Rattle.figures.specs.Numbers.{refused_at}
use Rattle.laws.proofs.Order.{Passes, both_pass, lowest_passes}
use Rattle.rows.specs.declared.Kind.{Kind}
use Rattle.rows.specs.Rows.{Row, kind_number, first, second, row_at, fields_of}
use Rattle.codec.specs.Codec.{rows_of, bytes_of_row, bytes_of}
use Rattle.rows.specs.Checks.{lone_row, fields_sound, row_sound, lowest_unsound, lowest_unrequired, requirement_rows}
use Rattle.rows.proofs.KindNumbers.{unknown}
use Rattle.row_laws.proofs.RoundTrip.{ByteRow, rows_back}
use Rattle.row_laws.proofs.Sound.{Sound, Required, sound_inside}
use Rattle.layout.specs.Layout.{form1}
use Rattle.layout.specs.Written.{rows_in, RequirementSound}
use Rattle.layout.specs.Checks.{offset_of, requirement_from}

-- the writer's bytes of rows are those of the codec
pub rows_coded : (rows : List Row) → rows_in form1 rows ≡ bytes_of rows
rows_coded [] = refl
rows_coded (r ∷ rows) = ap (λ (l : List ℕ). bytes_of_row r ++ l) (rows_coded rows)

-- 8 and 9 are not given, wherever their places are
module _ (conditions : ℕ) (rows : List Row) where
  rows_pass :
      (unsound unrequired : ℕ → Refusal) →
      Passes (refused_at unsound (lowest_unsound conditions rows) then λ _. refused_at unrequired (lowest_unrequired rows))
      ↔ (Sound conditions rows × Required rows)
  rows_pass unsound unrequired = Iff.trans (both_pass _ _) (Iff.and (lowest_passes _ _ _) (lowest_passes _ _ _))

  pub passes_in_file : (from size : ℕ) → Passes (requirement_from conditions from size rows) ↔ Passes (requirement_rows conditions rows)
  passes_in_file from size = Iff.trans (rows_pass (λ x. UnsoundRow (File record { 0 = offset_of from size x })) (λ x. NotRequirement (File record { 0 = offset_of from size x }))) (Iff.symm (rows_pass (λ x. UnsoundRow (lone_row x)) (λ x. NotRequirement (lone_row x))))

-- a sound row is of a known kind
known_kind : (conditions r : ℕ) (row : Row) → So (row_sound conditions r row) → kind_number row < 13
known_kind conditions r row sound = go (dec_lt (kind_number row) 13)
  where
    go : Dec (kind_number row < 13) → kind_number row < 13
    go (yes l) = l
    go (no l) =
        absurd
        (false≢true
        (subst (λ (k : Kind). So (fields_sound (fields_of k) conditions r (first row) (second row))) (unknown (kind_number row) (omega arith)) sound))

three_small : (row : Row) → length row ≡ 3 → kind_number row < 256 → first row < 256 → second row < 256 → (i : ℕ) → i < length row → get_or row i 0 < 256
three_small row three a b c zero l = a
three_small row three a b c (suc zero) l = b
three_small row three a b c (suc (suc zero)) l = c
three_small row three a b c (suc (suc (suc i))) l = absurd (omega arith)

module _ (conditions : ℕ) (few : conditions ≤ most_conditions) (rows : List Row) (right : RequirementSound form1 conditions rows) where
  sound_rows : Sound conditions rows
  sound_rows = ((rows_pass conditions rows (λ x. UnsoundRow (lone_row x)) (λ x. NotRequirement (lone_row x))).0 (tt, right.passes)).0

  byte_row : (r : ℕ) → r < length rows → ByteRow (row_at rows r)
  byte_row r l =
      let three = right.three r l in
      let few_rows = right.few_rows in
      let inside = sound_inside conditions rows sound_rows r l 256 (omega arith) (omega arith) in
      let known = known_kind conditions r (row_at rows r) (sound_rows r (omega arith) l) in
      record { three = three; small = three_small (row_at rows r) three (omega arith) inside.0 inside.1 }

  pub rows_read : rows_of (rows_in form1 rows) ≡ rows
  rows_read = rw rows_coded (rows_back rows byte_row)
