-- The witness's value is true exactly where "not" stands over the occurrence: so the witness flips the occurrence.
-- Assumes nothing.
use mathlib.Core.Path.{◌≡◌, refl, sym, ◌∙◌}
use mathlib.Core.Bool.{Bool, true, false, ◌&&◌, and-true, and-false, or-false}
use mathlib.Core.List.{List}
use Prim.Native.Nat.{ℕ, zero, suc, ◌≤◌, ◌<◌}
use native.Mathlib.Omega.{arith}
use native.Mathlib.Decide.{ℕ_discrete, le_ind}
use borrow.Author.Tests.{eqb-true, eq-eqb, ne_eqb, lt-ltb}
use lib.Dec.{eqb, ltb}
use lib.ListN.{length}
use Rattle.rows.specs.Rows.{Row, kind_number, first, row_at, named}
use Rattle.rows.specs.Checks.{times, namings, is_not, IsRequirement}
use Rattle.signals.specs.Truth.{Reading}
use Rattle.trap_laws.proofs.Count.{namings_grow, named_once_lem}
use Rattle.trap_laws.proofs.Climb.{Flipped}
use Rattle.coverage.specs.Coverage.{flip, negated, witness_bit}

module _ (rows : List Row) (p : ℕ) where
  -- what row m adds to the test
  over : (m : ℕ) → (is_not (row_at rows m) && eqb (first (row_at rows m)) p) ≡ (is_not (row_at rows m) && ltb 0 (times p (named (row_at rows m))))
  over m = go (is_not (row_at rows m)) refl
    where
      r : Row
      r = row_at rows m

      same : Dec (p ≡ first r) → kind_number r ≡ 3 → eqb (first r) p ≡ ltb 0 (times p (named r))
      same (yes e) k = rw (k, eq-eqb (first r) p (sym e), eq-eqb p (first r) e)
      same (no e) k = rw (k, ne_eqb (first r) p (λ q. e (sym q)), ne_eqb p (first r) e)

      go : (b : Bool) → is_not r ≡ b → (b && eqb (first r) p) ≡ (b && ltb 0 (times p (named r)))
      go true e = same (ℕ_discrete p (first r)) (eqb-true (kind_number r) 3 e)
      go false e = refl

  -- a row that does not name p adds nothing
  passed : (m : ℕ) → times p (named (row_at rows m)) ≡ 0 → negated rows p (suc m) ≡ negated rows p m
  unfolding negated
  passed m e = rw (over m, e, and-false (is_not (row_at rows m)))

  unnamed : (m : ℕ) → namings rows p m ≡ 0 → negated rows p m ≡ false
  unfolding namings
  unnamed zero e = unfold negated in refl
  unnamed (suc m) e = passed m (omega arith) ∙ unnamed m (omega arith)

  -- the first row that names p decides, where no row after it does
  named_by :
      (s : ℕ) → namings rows p s ≡ 0 → 0 < times p (named (row_at rows s)) → (m : ℕ) → suc s ≤ m → namings rows p m ≤ 1 →
      negated rows p m ≡ is_not (row_at rows s)
  unfolding negated namings
  named_by s none h =
      le_ind (λ m. namings rows p m ≤ 1 → negated rows p m ≡ is_not (row_at rows s))
      (λ _.
      rw (over s, lt-ltb 0 (times p (named (row_at rows s))) h, unnamed s none, and-true (is_not (row_at rows s)), or-false (is_not (row_at rows s))))
      (λ m l f e. let g = namings_grow rows p (suc s) m l in passed m (omega arith) ∙ f (omega arith))

-- the witness of an occurrence flips it
pub witness_flips :
    (rows : List Row) → IsRequirement rows → (p : ℕ) (reads : Reading) →
    Flipped rows p (witness_bit rows p) reads (flip p (λ _. witness_bit rows p) reads)
witness_flips rows is p reads =
    record {
      elsewhere = λ r d. rw (ne_eqb r p d);
      here = rw (eq-eqb p p refl);
      under_not =
          λ s l h.
          let o = named_once_lem rows is p s l h in
          named_by rows p s o.1 h (length rows) l (omega (arith, is.once p (omega (arith, o.0))));
      under_none = unnamed rows p (length rows);
    }
