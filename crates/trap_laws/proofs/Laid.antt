-- The rows added along the way: each is well formed and names lower rows, so the trap table is a formula table.
-- Assumes nothing.
use mathlib.Core.Path.{◌≡◌, refl, subst}
use mathlib.Core.Bool.{cond, So, and-eq-true_iff}
use mathlib.Core.List.{List, [], ◌∷◌, ◌++◌}
use Prim.Native.Nat.{ℕ, zero, suc, ◌+◌, ◌-◌, ◌<◌}
use native.Mathlib.Nat.{add-zero, add-suc, suc-add, add_assoc}
use native.Mathlib.Omega.{arith}
use native.Mathlib.Decide.{dec_lt}
use borrow.Author.Tests.{lt-ltb, eq-eqb}
use lib.ListN.{length, length-append, get_or-append}
use lib.Seq.{get_or-append-add}
use Rattle.rows.specs.declared.Fields.{Fields}
use Rattle.rows.specs.declared.Fields.TheVariants as fields
use Rattle.rows.specs.declared.Kind.{Kind}
use Rattle.rows.specs.Rows.{Row, kind, first, second, row_at, fields_of, named_by, named}
use Rattle.rows.specs.declared.Kind.TheVariants.{False, True, Condition, Not, And, Or, StrongNext, WeakNext, Until, Release, Finally, Globally, WeakUntil, Unknown}
use Rattle.rows.specs.Checks.{All, times, fields_sound, row_sound}
use Rattle.signal_laws.proofs.ByKind.{Needs}
use Rattle.signal_laws.proofs.Model.{AllMap, Lower}
use Rattle.rules.specs.TrapRows.{Side, side_of, added, trap_of, Way, up_to, way, trap_table}
use Rattle.rules.specs.TrapRows.Side.{Left, Right}
use Rattle.trap_laws.proofs.Child.{child, lower_children, adds}
use Rattle.trap_laws.proofs.Induction.{start, stands_first, other, free, new, climb_keeps}

-- of a row that names rows: they are lower, and a field that names none is 0
abbrev Low : Fields → ℕ → ℕ → ℕ → Type 0
Low fields.Neither r a b = ⊥
Low fields.Condition r a b = ⊥
Low fields.OneRow r a b = (a < r) × (b ≡ 0)
Low fields.TwoRows r a b = (a < r) × (b < r)
Low fields.Unknown r a b = ⊥

low_sound :
    (f : Fields) (conditions r a b : ℕ) → Low f r a b → So (fields_sound f conditions r a b) × All (λ k. k < r) (named_by f a b)
low_sound fields.Neither conditions r a b h = absurd h
low_sound fields.Condition conditions r a b h = absurd h
low_sound fields.OneRow conditions r a b h = ((and-eq-true_iff _ _).1 (lt-ltb a r h.0, eq-eqb b 0 h.1), (h.0, tt))
low_sound fields.TwoRows conditions r a b h = ((and-eq-true_iff _ _).1 (lt-ltb a r h.0, lt-ltb b r h.1), (h.0, (h.1, tt)))
low_sound fields.Unknown conditions r a b h = absurd h

abbrev LowRow : ℕ → Row → Type 0
LowRow r row = Low (fields_of (kind row)) r (first row) (second row)

-- the rows of a list, from row z on
abbrev LowRows : ℕ → List Row → Type 0
LowRows z [] = Unit {0}
LowRows z (r ∷ rs) = LowRow z r × LowRows (suc z) rs

low_at : (z : ℕ) (new : List Row) → LowRows z new → (j : ℕ) → j < length new → LowRow (z + j) (row_at new j)
low_at z [] h j l = absurd (omega arith)
low_at z (r ∷ rs) h zero l = rw (add-zero z) h.0
low_at z (r ∷ rs) h (suc j) l = rw (add-suc z j, ← (suc-add z j)) (low_at (suc z) rs h.1 j (omega arith))

-- the rows of each line of the table, and that there are some
added_low :
    (k : Kind) (side : Side) (s c o t z : ℕ) → s < z → t < z → Needs (fields_of k) (Unit {0}) (c < z) (o < z) →
    LowRows z (added k side s c o t z) × cond (adds k) (0 < length (added k side s c o t z)) (Unit {0})
added_low False side s c o t z hs ht h = omega arith
added_low True side s c o t z hs ht h = omega arith
added_low Condition side s c o t z hs ht h = omega arith
added_low Not side s c o t z hs ht h = omega arith
added_low And side s c o t z hs ht h = omega arith
added_low Or side s c o t z hs ht h = omega arith
added_low StrongNext side s c o t z hs ht h = omega arith
added_low WeakNext side s c o t z hs ht h = omega arith
added_low Until Left s c o t z hs ht h = omega arith
added_low Until Right s c o t z hs ht h = omega arith
added_low Release Left s c o t z hs ht h = omega arith
added_low Release Right s c o t z hs ht h = omega arith
added_low Finally side s c o t z hs ht h = omega arith
added_low Globally side s c o t z hs ht h = omega arith
added_low WeakUntil Left s c o t z hs ht h = omega arith
added_low WeakUntil Right s c o t z hs ht h = omega arith
added_low Unknown side s c o t z hs ht h = omega arith

-- what holds of the first rows of a table and of the rows after them holds of the table
each_row :
    (P : ℕ → Row → Type 0) (front more : List Row) → ((r : ℕ) → r < length front → P r (row_at front r)) →
    ((j : ℕ) → j < length more → P (length front + j) (row_at more j)) → (r : ℕ) → r < length (front ++ more) → P r (row_at (front ++ more) r)
each_row P front more f g r l = go (dec_lt r (length front))
  where
    go : Dec (r < length front) → P r (row_at (front ++ more) r)
    go (yes q) = rw (get_or-append front more [] r q) (f r q)
    go (no q) =
        let e : length front + (r - length front) ≡ r = omega arith in
        subst (λ (x : ℕ). P x (row_at (front ++ more) x)) e
        (rw (get_or-append-add front more (r - length front) []) (g (r - length front) (omega (arith, length-append front more))))

trap_added : (rows : List Row) (s z : ℕ) → s < z → trap_of rows s z < z + length rows
trap_added [] s z h = omega arith
trap_added (r ∷ rs) s z h = omega arith

-- the rows added so far are sound, and the way has come to rows that are there
pub record Laid (rows : List Row) (y : Way) : Type 0 where
  pub at_in : y.at < length rows
  pub trap_in : y.trap < free rows y
  pub low : (j : ℕ) → j < length y.rows → LowRow (length rows + j) (row_at y.rows j)

pub laid_start : (rows : List Row) (p : ℕ) → p < length rows → Laid rows (start p)
laid_start rows p l = record { at_in = l; trap_in = omega arith; low = λ j m. absurd (omega arith) }

module _ (rows : List Row) (lower : Lower rows) where
  module _ (s : ℕ) (y : Way) (l : s < length rows) (h : 0 < times y.at (named (row_at rows s))) (is : Laid rows y) where
    new_low : LowRows (free rows y) (new rows s y) × cond (adds (kind (row_at rows s))) (0 < length (new rows s y)) (Unit {0})
    new_low =
        let r = row_at rows s in
        added_low (kind r) (side_of (stands_first r y.at)) s y.at (other r y.at) y.trap (free rows y) (omega arith) is.trap_in
        (lower_children (free rows y) (child (fields_of (kind r)) (first r) (second r) y.at (stands_first r y.at) refl h)
        (AllMap (named r) (λ k m. omega arith) (lower s l)))

    pub new_some : So (adds (kind (row_at rows s))) → 0 < length (new rows s y)
    new_some t = rw t at new_low.1

    pub laid_up : Laid rows (up_to added (length rows) s (row_at rows s) y)
    laid_up =
        record {
          at_in = l;
          trap_in =
              let q = trap_added (new rows s y) s (free rows y) (omega arith) in
              omega (arith, length-append y.rows (new rows s y));
          low =
              each_row (λ j r. LowRow (length rows + j) r) y.rows (new rows s y) is.low
              (λ j m. rw (← (add_assoc (length rows) (length y.rows) j)) (low_at (free rows y) (new rows s y) new_low.0 j m));
        }

  -- the table so far names lower rows
  pub laid_lower : (y : Way) → Laid rows y → Lower (rows ++ y.rows)
  laid_lower y h =
      each_row (λ r row. All (λ k. k < r) (named row)) rows y.rows lower
      (λ j l. (low_sound (fields_of (kind (row_at y.rows j))) 0 _ _ _ (h.low j l)).1)

  -- the trap table of a well-formed table is well formed
  pub trap_sound :
      (p : ℕ) → p < length rows → (conditions : ℕ) → ((r : ℕ) → r < length rows → So (row_sound conditions r (row_at rows r))) →
      (r : ℕ) → r < length (trap_table rows p) → So (row_sound conditions r (row_at (trap_table rows p) r))
  trap_sound p l conditions sound =
      let laid = climb_keeps added rows (λ s y. Laid rows y) (λ s y l e h. h) laid_up p (laid_start rows p l) in
      each_row (λ r row. So (row_sound conditions r row)) rows (way added rows p).rows sound
      (λ j m. (low_sound (fields_of (kind (row_at (way added rows p).rows j))) conditions _ _ _ (laid.low j m)).0)
