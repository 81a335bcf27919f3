-- When the sizes of a lone table, and of a lone requirement, pass: 3 and 7 in plain logic; and then all its rows are decoded.
-- Assumes nothing.
use mathlib.Core.Path.{◌≡◌, sym}
use mathlib.Core.Logic.Iff
use mathlib.Core.Logic.{◌↔◌}
use mathlib.Core.List.{List}
use Prim.Native.Nat.{ℕ, ◌≤◌, ◌<◌}
use native.Mathlib.Omega.{arith}
use lib.ListN.{length, take}
use Rattle.std.specs.Prelude.{Result, Ok}
use Rattle.figures.specs.declared.Refusal.{Refusal}
use Rattle.figures.specs.Refusals.{check_says}
use Rattle.figures.proofs.Known.{said}
use Rattle.limits.specs.Limits.{most_conditions}
use Rattle.lengths.specs.Lengths.{most_table_rows, most_requirement_rows}
use Rattle.laws.proofs.Order.{Passes, both_pass, passes_alone}
use Rattle.laws.proofs.Passed.{Within, RightLength, lone_passes, table_passes, requirement_passes}
use Rattle.codec.specs.Codec.{rows_of}
use Rattle.codec.proofs.Bytes.{all_decoded, length_rows_of}
use Rattle.rows.specs.Checks.{table_sized, requirement_sized}

module _ (conditions bytes : ℕ) where
  pub table_sized_lem : Passes (table_sized conditions bytes) ↔ (Within 1 most_conditions conditions × RightLength most_table_rows bytes)
  table_sized_lem =
      Iff.trans (both_pass _ _) (Iff.and (lone_passes conditions) (Iff.trans (passes_alone _) (table_passes bytes)))

  pub requirement_sized_lem :
      Passes (requirement_sized conditions bytes) ↔ (Within 1 most_conditions conditions × RightLength most_requirement_rows bytes)
  requirement_sized_lem =
      Iff.trans (both_pass _ _) (Iff.and (lone_passes conditions) (Iff.trans (passes_alone _) (requirement_passes bytes)))

-- what follows for the rows decoded of bytes that may have so many
pub record Decoded (most conditions : ℕ) (bytes : List ℕ) : Type 0 where
  pub whole : take most_table_rows (rows_of bytes) ≡ rows_of bytes
  pub some : 0 < length (rows_of bytes)
  pub few : length (rows_of bytes) ≤ most
  pub suited : conditions ≤ most_conditions

module _ (conditions : ℕ) (bytes : List ℕ) {v : Result (Unit {0}) Refusal} (passed : v ≡ Ok tt) where
  within :
      (most : ℕ) → most ≤ most_table_rows → Within 1 most_conditions conditions × RightLength most (length bytes) →
      Decoded most conditions bytes
  within most l h =
      let n = length_rows_of bytes in
      let c = h.0 in
      let r = h.1.1 in
      record {
        whole = (all_decoded bytes (omega arith)).0;
        some = omega arith;
        few = omega arith;
        suited = omega arith;
      }

  pub table_decoded : check_says v ≡ table_sized conditions (length bytes) → Decoded most_table_rows conditions bytes
  table_decoded e =
      within most_table_rows (omega arith)
      ((table_sized_lem conditions (length bytes)).0 (tt, sym (said check_says (λ o. o) e passed)))

  pub requirement_decoded : check_says v ≡ requirement_sized conditions (length bytes) → Decoded most_requirement_rows conditions bytes
  requirement_decoded e =
      within most_requirement_rows (omega arith)
      ((requirement_sized_lem conditions (length bytes)).0 (tt, sym (said check_says (λ o. o) e passed)))
