-- What "named exactly once" gives: a row that names k is the only one, and names it once.
-- Assumes nothing.
use mathlib.Core.Path.{◌≡◌, refl, sym}
use mathlib.Core.Bool.{Bool, true, false, cond, ◌||◌}
use mathlib.Core.List.{List, [], ◌∷◌}
use Prim.Native.Nat.{ℕ, zero, suc, ◌+◌, ◌≤◌, ◌<◌}
use native.Mathlib.Nat.{zero-add}
use native.Mathlib.Omega.{arith}
use native.Mathlib.Decide.{ℕ_discrete, dec_lt, le_ind}
use borrow.Author.Tests.{eq-eqb, ne_eqb, lt-ltb}
use lib.Dec.{eqb, ltb}
use lib.ListN.{length}
use Rattle.rows.specs.Rows.{Row, row_at, named}
use Rattle.rows.specs.Checks.{All, times, namings, IsRequirement}
use Rattle.signal_laws.proofs.Model.{Lower}
use Rattle.rules.specs.TrapRows.{has}

-- what holds of every number that stands in a list holds of all of the list, and back
pub counted : (P : ℕ → Type 0) (l : List ℕ) → ((k : ℕ) → 0 < times k l → P k) → All P l
counted P [] f = tt
counted P (x ∷ xs) f = (f x (rw (eq-eqb x x refl) (omega arith)), counted P xs (λ k h. f k (omega arith)))

pub all_counted : (P : ℕ → Type 0) (l : List ℕ) (k : ℕ) → All P l → 0 < times k l → P k
all_counted P [] k a h = absurd (omega arith)
all_counted P (x ∷ xs) k a h = go (ℕ_discrete k x) (all_counted P xs k a.1)
  where
    go : Dec (k ≡ x) → (0 < times k xs → P k) → P k
    go (yes e) f = rw e a.0
    go (no e) f = f (let q = rw (ne_eqb k x e) at h in omega arith)

-- a list has a number where it counts it
pub has_counts : (k : ℕ) (l : List ℕ) → has k l ≡ ltb 0 (times k l)
has_counts k [] = refl
has_counts k (x ∷ xs) = rw (has_counts k xs) (go (eqb k x))
  where
    go : (b : Bool) → (b || ltb 0 (times k xs)) ≡ ltb 0 (cond b 1 0 + times k xs)
    go true = sym (lt-ltb 0 (1 + times k xs) (omega arith))
    go false = rw zero-add

module _ (rows : List Row) where
  pub namings_grow : (k m m' : ℕ) → m ≤ m' → namings rows k m ≤ namings rows k m'
  unfolding namings
  namings_grow k m = le_ind (λ x. namings rows k m ≤ namings rows k x) (omega arith) (λ x l h. omega arith)

  -- no row up to k itself names k
  pub not_yet : Lower rows → (k m : ℕ) → m ≤ length rows → m ≤ suc k → namings rows k m ≡ 0
  unfolding namings
  not_yet lower k zero l h = refl
  not_yet lower k (suc m) l h = go (dec_lt 0 (times k (named (row_at rows m)))) (not_yet lower k m (omega arith) (omega arith))
    where
      go : Dec (0 < times k (named (row_at rows m))) → namings rows k m ≡ 0 → namings rows k m + times k (named (row_at rows m)) ≡ 0
      go (yes q) e = absurd (let b = all_counted (λ j. j < m) (named (row_at rows m)) k (lower m l) q in omega arith)
      go (no q) e = omega arith

  -- of a requirement, a row that names k is the first to name it, and names it once
  pub named_once_lem :
      IsRequirement rows → (k s : ℕ) → s < length rows → 0 < times k (named (row_at rows s)) →
      (k < s) × (namings rows k s ≡ 0) × (times k (named (row_at rows s)) ≡ 1)
  unfolding namings
  named_once_lem is k s l h =
      let b : k < s = all_counted (λ j. j < s) (named (row_at rows s)) k (is.lower s l) h in
      let o = is.once k (omega arith) in
      let g = namings_grow k (suc s) (length rows) l in
      omega arith
