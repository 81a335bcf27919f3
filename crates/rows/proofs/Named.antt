-- How often rows name a row: at most twice a row.
-- Assumes nothing.
use mathlib.Core.Path.{◌≡◌, ap}
use mathlib.Core.Bool.{Bool, true, false, cond}
use Prim.Native.Nat.{ℕ, ◌≤◌}
use native.Mathlib.Omega.{arith}
use lib.Dec.{eqb}
use Rattle.rows.specs.declared.Fields.{Fields}
use Rattle.rows.specs.declared.Fields.TheVariants as fields
use Rattle.rows.specs.Rows.{named_by}
use Rattle.rows.specs.Checks.{times}

pub one_of : {b t : Bool} → b ≡ t → ◌≡◌ {A = ℕ} (cond b 1 0) (cond t 1 0)
one_of e = ap (λ (b : Bool). cond b 1 0) e

pub at_most_one : (b : Bool) → cond b 1 0 ≤ 1
at_most_one true = omega arith
at_most_one false = omega arith

pub at_most_two : (k : ℕ) (f : Fields) (a b : ℕ) → times k (named_by f a b) ≤ 2
at_most_two k fields.Neither a b = omega arith
at_most_two k fields.Condition a b = omega arith
at_most_two k fields.OneRow a b = omega (arith, at_most_one (eqb k a))
at_most_two k fields.TwoRows a b = omega (arith, at_most_one (eqb k a), at_most_one (eqb k b))
at_most_two k fields.Unknown a b = omega arith
