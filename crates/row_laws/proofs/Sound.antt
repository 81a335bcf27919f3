-- What the checks behind 8 and 9 give: a sound row names lower rows and its fields are small; rows as required are a requirement.
-- Assumes nothing.
use mathlib.Core.Path.{refl}
use mathlib.Core.Logic.{◌↔◌}
use mathlib.Core.Bool.{Bool, true, false, not, ◌&&◌, ◌||◌, So, and-eq-true_iff, false≢true}
use mathlib.Core.List.{List}
use Prim.Native.Nat.{ℕ, suc, ◌≤◌, ◌<◌}
use native.Mathlib.Omega.{arith}
use borrow.Author.Tests.{ltb-true, lt-ltb, eqb-true, eq-eqb}
use lib.Dec.{ltb, eqb}
use lib.ListN.{length}
use Rattle.laws.proofs.Lowest.{Holds}
use Rattle.rows.specs.declared.Fields.{Fields}
use Rattle.rows.specs.declared.Fields.TheVariants as fields
use Rattle.rows.specs.Rows.{Row, kind, first, second, row_at, fields_of, named_by, named}
use Rattle.rows.specs.Checks.{fields_sound, row_sound, named_once, not_over_condition, All, IsRequirement}

module _ (conditions r a b : ℕ) where
  parts : (x y : Bool) → So (x && y) → So x × So y
  parts x y t = (and-eq-true_iff x y).0 t

  fields_lower : (f : Fields) → So (fields_sound f conditions r a b) → All (λ k. k < r) (named_by f a b)
  fields_lower fields.Neither t = tt
  fields_lower fields.Condition t = tt
  fields_lower fields.OneRow t = (ltb-true a r (parts (ltb a r) (eqb b 0) t).0, tt)
  fields_lower fields.TwoRows t = let h = parts (ltb a r) (ltb b r) t in (ltb-true a r h.0, (ltb-true b r h.1, tt))
  fields_lower fields.Unknown t = tt

  -- a column that has room for the conditions and for the rows has room for both fields
  module _ (many : ℕ) (some : 0 < many) (c : conditions ≤ many) (l : r ≤ many) where
    unused : (n : ℕ) → So (eqb n 0) → n < many
    unused n t = let e = eqb-true n 0 t in omega arith

    bounded : (n most : ℕ) → most ≤ many → So (ltb n most) → n < many
    bounded n most h t = let e = ltb-true n most t in omega arith

    fields_inside : (f : Fields) → So (fields_sound f conditions r a b) → (a < many) × (b < many)
    fields_inside fields.Neither t = let h = parts (eqb a 0) (eqb b 0) t in (unused a h.0, unused b h.1)
    fields_inside fields.Condition t = let h = parts (ltb a conditions) (eqb b 0) t in (bounded a conditions c h.0, unused b h.1)
    fields_inside fields.OneRow t = let h = parts (ltb a r) (eqb b 0) t in (bounded a r l h.0, unused b h.1)
    fields_inside fields.TwoRows t = let h = parts (ltb a r) (ltb b r) t in (bounded a r l h.0, bounded b r l h.1)
    fields_inside fields.Unknown t = absurd (false≢true t)

-- the rows of a table are sound
abbrev pub Sound : ℕ → List Row → Type 0
Sound conditions rows = Holds (λ r. row_sound conditions r (row_at rows r)) 0 (length rows)

module _ (conditions : ℕ) (rows : List Row) (sound : Sound conditions rows) (r : ℕ) (l : r < length rows) where
  pub sound_lower : All (λ k. k < r) (named (row_at rows r))
  sound_lower =
      fields_lower conditions r (first (row_at rows r)) (second (row_at rows r)) (fields_of (kind (row_at rows r))) (sound r (omega arith) l)

  pub sound_inside : (many : ℕ) → conditions ≤ many → length rows ≤ many → (first (row_at rows r) < many) × (second (row_at rows r) < many)
  sound_inside many c n =
      fields_inside conditions r (first (row_at rows r)) (second (row_at rows r)) many (omega arith) c (omega arith)
      (fields_of (kind (row_at rows r))) (sound r (omega arith) l)

-- the rows are as a requirement has them, exactly where they are a requirement in plain logic
module _ (rows : List Row) where
  abbrev pub Required : Type 0
  Required = Holds (λ r. named_once rows r && not_over_condition rows r) 0 (length rows)

  -- a test that is asked only where another passes
  asked : (x y : Bool) → So (not x || y) ↔ (So x → So y)
  asked true y = (λ t _. t, λ h. h refl)
  asked false y = (λ _ t. absurd (false≢true t), λ _. refl)

  pub requirement : (conditions : ℕ) → Sound conditions rows → Required → IsRequirement rows
  requirement conditions sound required =
      record {
        lower = λ r l. sound_lower conditions rows sound r l;
        once = λ r l. eqb-true _ 1 ((asked _ _).0 (tests r (omega arith)).0 (lt-ltb (suc r) (length rows) l));
        not_over = λ r l t. (asked _ _).0 (tests r l).1 t;
      }
    where
      tests : (r : ℕ) → r < length rows → So (named_once rows r) × So (not_over_condition rows r)
      tests r l = (and-eq-true_iff (named_once rows r) (not_over_condition rows r)).0 (required r (omega arith) l)

  pub required : IsRequirement rows → Required
  required is r l h =
      (and-eq-true_iff (named_once rows r) (not_over_condition rows r)).1 (
        (asked _ _).1 (λ t. eq-eqb _ 1 (is.once r (ltb-true (suc r) (length rows) t))),
        (asked _ _).1 (is.not_over r h),
      )
