-- Kind numbers: every number past 12 is that of no kind.
-- Assumes nothing.
use mathlib.Core.Path.{◌≡◌}
use Prim.Native.Nat.{ℕ, ◌≤◌}
use lib.ListN.{get_or-eq_default}
use Rattle.rows.specs.Rows.{kinds, kind_of}
use Rattle.rows.specs.declared.Kind.TheVariants.{Unknown}

-- "Kinds 0 to 12 are the only kinds"
pub unknown : (k : ℕ) → 13 ≤ k → kind_of k ≡ Unknown
unknown k h = get_or-eq_default kinds Unknown h
