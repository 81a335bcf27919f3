-- Words stored one after the other: what is known of each of the first ones.
-- Assumes nothing.
use mathlib.Core.Path.{◌≡◌, sym, subst}
use mathlib.Core.List.{List}
use Prim.Native.Nat.{ℕ, ◌+◌, ◌<◌}
use native.Mathlib.Omega.{arith}
use native.Mathlib.Decide.{ℕ_discrete}
use lib.ListN.{length, get_or, set}
use lib.Seq.{get_or-set_same, get_or-set_other}

pub stored_more :
    (P : ℕ → ℕ → Type 0) (words : List ℕ) (m v : ℕ) → m < length words → ((r : ℕ) → r < m → P r (get_or words r 0)) → P m v →
    (r : ℕ) → r < m + 1 → P r (get_or (set words m v) r 0)
stored_more P words m v inside before is r l = go (ℕ_discrete r m)
  where
    go : Dec (r ≡ m) → P r (get_or (set words m v) r 0)
    go (yes e) = subst (λ (k : ℕ). P k (get_or (set words m v) k 0)) (sym e) (subst (P m) (sym (get_or-set_same words m v 0 inside)) is)
    go (no d) = subst (P r) (sym (get_or-set_other words m r v 0 d)) (before r (omega arith))
