-- Induction along the way, and one step of it.
-- Assumes nothing.
use mathlib.Core.Path.{◌≡◌, refl, subst}
use mathlib.Core.Bool.{Bool, true, false, cond}
use mathlib.Core.List.{List, []}
use Prim.Native.Nat.{ℕ, zero, suc, ◌+◌, ◌<◌}
use native.Mathlib.Omega.{arith}
use borrow.Author.Tests.{ltb-true, ltb-false}
use lib.Dec.{eqb, ltb}
use lib.ListN.{length, drop, drop_of_length-le}
use lib.Seq.{drop-cons}
use Rattle.rows.specs.Rows.{Row, kind, first, second, row_at, named}
use Rattle.rows.specs.Checks.{times}
use Rattle.rules.specs.TrapRows.{side_of, Rule, added, Way, up_to, climb, way}
use Rattle.trap_laws.proofs.Count.{has_counts}

-- the way before any row is added
abbrev pub start : ℕ → Way
start p = record { at = p; trap = p; rows = [] }

-- of row r that names c: whether c stands first, and the other child
abbrev pub stands_first : Row → ℕ → Bool
stands_first r c = eqb (first r) c

abbrev pub other : Row → ℕ → ℕ
other r c = cond (stands_first r c) (second r) (first r)

-- the first free row, and the rows that row s adds there
abbrev pub free : List Row → Way → ℕ
free rows y = length rows + length y.rows

abbrev pub new : List Row → ℕ → Way → List Row
new rows s y =
    let r = row_at rows s in
    added (kind r) (side_of (stands_first r y.at)) s y.at (other r y.at) y.trap (free rows y)

-- what a row keeps that does not name the row in hand, and one that does brings about one row up, holds at the end of the way
pub climb_keeps :
    (rule : Rule) (rows : List Row) (P : ℕ → Way → Type 0) →
    ((s : ℕ) (y : Way) → s < length rows → times y.at (named (row_at rows s)) ≡ 0 → P s y → P (suc s) y) →
    ((s : ℕ) (y : Way) → s < length rows → 0 < times y.at (named (row_at rows s)) → P s y →
    P (suc s) (up_to rule (length rows) s (row_at rows s) y)) →
    (p : ℕ) → P 0 (start p) → P (length rows) (way rule rows p)
unfolding climb way
climb_keeps rule rows P stay rise p h = go (length rows) 0 (start p) (omega arith) h
  where
    next :
        (s : ℕ) (y : Way) → s < length rows → P s y → (b : Bool) → ltb 0 (times y.at (named (row_at rows s))) ≡ b →
        P (suc s) (cond b (up_to rule (length rows) s (row_at rows s) y) y)
    next s y l h true e = rise s y l (omega (arith, ltb-true)) h
    next s y l h false e = stay s y l (omega (arith, ltb-false)) h

    go : (m s : ℕ) (y : Way) → s + m ≡ length rows → P s y → P (length rows) (climb rule (length rows) s (drop s rows) y)
    go zero s y e h =
        let q : s ≡ length rows = omega arith in
        rw (drop_of_length-le rows {i = s} (omega arith)) (subst (λ (x : ℕ). P x y) q h)
    go (suc m) s y e h =
        let l : s < length rows = omega arith in
        rw (drop-cons rows s [] l)
        (rw (climb, has_counts y.at (named (row_at rows s))) (go m (suc s) _ (omega arith) (next s y l h _ refl)))
