-- The engine's loop over the rows keeps the way of document 01, and what it adds fits.
-- Assumes nothing.
use mathlib.Core.Path.{◌≡◌, refl, sym, ◌∙◌, ap}
use mathlib.Core.Bool.{Bool, true, false, cond}
use mathlib.Core.List.{List, [], ◌∷◌, ◌++◌, append-nil}
use Prim.Native.Nat.{ℕ, ◌+◌, ◌-◌, ◌*◌, ◌≤◌, ◌<◌}
use native.Mathlib.Omega.{arith}
use native.Mathlib.Numerals.{add-one}
use borrow.Author.Tests.{eqb-true, leb-true, eq-eqb, ne_eqb}
use lib.Dec.{eqb, leb}
use lib.ListN.{length, drop, length-append, drop_of_length-le}
use lib.Seq.{drop-cons}
use Rattle.rows.specs.declared.Kind.{Kind}
use Rattle.rows.specs.Rows.{Row, row_at, named}
use Rattle.signal_laws.proofs.ByKind.{by_kind}
use Rattle.rules.specs.TrapRows.{Side, Way, added, added_count, trap_of, has, up_to, climb, way}
use Rattle.rules.specs.TrapRows.Side.{Left, Right}
use Rattle.ways.specs.Climbing.{passed}

-- the last row added is the last row of the table, whose first n rows are copied
pub last_row :
    (old new : List Row) (s n : ℕ) →
    cond (eqb (length (old ++ new)) (length old)) s (n + length (old ++ new) - 1) ≡ trap_of new s (n + length old)
last_row old [] s n = rw (append-nil old, eq-eqb (length old) (length old) refl)
last_row old (r ∷ rs) s n =
    let many = length-append old (r ∷ rs) in
    rw (ne_eqb (length (old ++ (r ∷ rs))) (length old) (λ e. omega (arith, many))) (omega (arith, many))

-- how many rows are added does not hang on their numbers
pub count_added : (k : Kind) (side : Side) (s c o t z : ℕ) → length (added k side s c o t z) ≡ added_count k side
count_added k Left s c o t z =
    eqb-true _ _ (by_kind (λ k. eqb (length (added k Left s c o t z)) (added_count k Left)) refl refl k)
count_added k Right s c o t z =
    eqb-true _ _ (by_kind (λ k. eqb (length (added k Right s c o t z)) (added_count k Right)) refl refl k)

-- a row adds at most 6
few_added : (k : Kind) (side : Side) (s c o t z : ℕ) → length (added k side s c o t z) ≤ 6
few_added k Left s c o t z = leb-true _ _ (by_kind (λ k. leb (length (added k Left s c o t z)) 6) refl refl k)
few_added k Right s c o t z = leb-true _ _ (by_kind (λ k. leb (length (added k Right s c o t z)) 6) refl refl k)

few_more : (rows : List Row) (k : Kind) (side : Side) (s c o t z : ℕ) → length (rows ++ added k side s c o t z) ≤ length rows + 6
few_more rows k side s c o t z = omega (arith, length-append rows (added k side s c o t z), few_added k side s c o t z)

few_passed : (n s : ℕ) (r : Row) (w : Way) → length (passed n s r w).rows ≤ length w.rows + 6
few_passed n s r w = go (has w.at (named r))
  where
    go : (b : Bool) → length (cond b (up_to added n s r w) w).rows ≤ length w.rows + 6
    go true = few_more w.rows _ _ _ _ _ _ _
    go false = omega arith

-- before row s: what is left to climb leads where the whole way does, and few rows were added
pub record Upward (rows : List Row) (p s : ℕ) (w : Way) : Type 0 where
  pub left : climb added (length rows) s (drop s rows) w ≡ way added rows p
  pub few : length w.rows ≤ 6 * s

pub upward_start : (rows : List Row) (p : ℕ) (none : List Row) → none ≡ [] → Upward rows p 0 (record { at = p; trap = p; rows = none })
unfolding way
upward_start rows p none e = rw e (record { left = refl; few = omega arith })

-- `pass` passes row s
pub upward_next :
    (rows : List Row) (p s : ℕ) (w w' : Way) → s < length rows → Upward rows p s w → w' ≡ passed (length rows) s (row_at rows s) w →
    Upward rows p (s + 1) w'
unfolding climb
upward_next rows p s w w' l u e =
    record {
      left =
          ap (climb added (length rows) (s + 1) (drop (s + 1) rows)) e
          ∙ ap (λ (k : ℕ). climb added (length rows) k (drop k rows) (passed (length rows) s (row_at rows s) w)) (add-one s)
          ∙ sym (ap (λ (l : List Row). climb added (length rows) s l w) (drop-cons rows s [] l))
          ∙ u.left;
      few = omega (arith, ap (λ (x : Way). length x.rows) e, few_passed (length rows) s (row_at rows s) w, u.few);
    }

-- past the last row the way is whole
pub upward_end : (rows : List Row) (p s : ℕ) (w : Way) → s ≡ length rows → Upward rows p s w → w.rows ≡ (way added rows p).rows
unfolding climb
upward_end rows p s w e u =
    ap (λ (x : Way). x.rows)
    (sym (ap (λ (l : List Row). climb added (length rows) s l w) (drop_of_length-le rows {i = s} (omega arith))) ∙ u.left)
