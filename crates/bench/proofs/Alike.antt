-- Functions that agree on the numbers below a count: the same list in order, sum, answer and set; and covers that agree at the occurrences give the same pairs.
-- Assumes nothing.
use mathlib.Core.Path.{◌≡◌, refl, sym, ap, ap₂}
use mathlib.Core.Bool.{Bool, cond, So, ◌||◌}
use mathlib.Core.List.{List, [], ◌∷◌, ◌++◌}
use Prim.Native.Nat.{ℕ, zero, suc, ◌+◌, ◌<◌}
use native.Mathlib.Omega.{arith}
use lib.ListN.{length}
use Rattle.figures.specs.Numbers.{below}
use Rattle.rows.specs.Rows.{Row}
use Rattle.rows.specs.Checks.{condition_at, occurrences}
use Rattle.row_laws.proofs.Occurring.{occurrence_there, occurrence_condition}
use Rattle.signals.specs.Signals.{some}
use Rattle.lines.specs.Texts.{in_order}
use Rattle.bench.specs.Coverage.{sum, row_of_occurrence, pairs_listed}

pub order_same : (m : ℕ) {f g : ℕ → List ℕ} → ((k : ℕ) → k < m → f k ≡ g k) → in_order m f ≡ in_order m g
unfolding in_order
order_same zero same = refl
order_same (suc m) same = ap₂ ◌++◌ (order_same m (λ k l. same k (omega arith))) (same m (omega arith))

pub sum_same : (m : ℕ) {f g : ℕ → ℕ} → ((k : ℕ) → k < m → f k ≡ g k) → sum m f ≡ sum m g
unfolding sum
sum_same zero same = refl
sum_same (suc m) same = ap₂ ◌+◌ (sum_same m (λ k l. same k (omega arith))) (same m (omega arith))

some_onward : (m i : ℕ) {f g : ℕ → Bool} → ((k : ℕ) → k < i + m → f k ≡ g k) → some m i f ≡ some m i g
unfolding some
some_onward zero i same = refl
some_onward (suc m) i same = ap₂ ◌||◌ (same i (omega arith)) (some_onward m (suc i) (λ k l. same k (omega arith)))

pub some_same : (m : ℕ) {f g : ℕ → Bool} → ((k : ℕ) → k < m → f k ≡ g k) → some m 0 f ≡ some m 0 g
some_same m same = some_onward m 0 (λ k l. same k (omega arith))

pub below_same : (m : ℕ) {f g : ℕ → Bool} → ((k : ℕ) → k < m → f k ≡ g k) → below m f ≡ below m g
unfolding below
below_same zero same = refl
below_same (suc m) same =
    ap₂ (λ (l : List ℕ) (b : Bool). l ++ cond b (m ∷ []) []) (below_same m (λ k l. same k (omega arith))) (same m (omega arith))

module _ (rows : List Row) where
  -- an occurrence's row is one of the rows, and a condition row
  pub occurrence_is_condition : (o : ℕ) → o < length (occurrences rows) → (row_of_occurrence rows o < length rows) × So (condition_at rows (row_of_occurrence rows o))
  occurrence_is_condition o l = occurrence_condition rows o (sym (occurrence_there rows o l))

  -- a table of what covers what need only be right at condition rows and at runs in range
  pub listed_same :
      (runs : ℕ) {covers covers' : ℕ → ℕ → Bool} (says : ℕ → ℕ → List ℕ) →
      ((p j : ℕ) → p < length rows → So (condition_at rows p) → j < runs → covers p j ≡ covers' p j) →
      pairs_listed rows runs covers says ≡ pairs_listed rows runs covers' says
  listed_same runs says same =
      order_same (length (occurrences rows))
      (λ o l.
      let row = occurrence_is_condition o l in
      order_same runs (λ j h. ap (λ (b : Bool). cond b (says o j) []) (same _ j row.0 row.1 h)))
