-- Sizes of sets and sums of them, and what it is for a condition to be read and covered, in plain logic.
-- Assumes nothing.
use mathlib.Core.Path.{◌≡◌, refl}
use mathlib.Core.Logic.Iff
use mathlib.Core.Logic.{◌↔◌}
use mathlib.Core.Bool.{Bool, true, false, cond, So, and-eq-true_iff}
use mathlib.Core.List.Memᴰ
use mathlib.Core.List.{List, [], ◌∷◌, Memᴰ}
use Prim.Native.Nat.{ℕ, zero, suc, ◌+◌, ◌*◌, ◌≤◌, ◌<◌}
use native.Mathlib.Omega.{arith}
use native.Mathlib.Numerals.{add-one}
use native.Mathlib.Nat.{suc-mul, add-le-add}
use borrow.Author.Tests.{eqb-true, eq-eqb}
use lib.ListN.{length}
use Rattle.figures.specs.Numbers.{below}
use Rattle.laws.proofs.Below.{length_more}
use Rattle.laws.proofs.Ascending.{below_has, has_below}
use Rattle.rows.specs.Rows.{first, row_at}
use Rattle.rows.specs.Checks.{condition_at}
use Rattle.signals.specs.Signals.{some}
use Rattle.signal_laws.proofs.Bools.{left, right}
use Rattle.signal_laws.proofs.Plain.{some_found, some_from}
use Rattle.bench.specs.Coverage.{Bench, size, sum, pair_covered, mattered_count, all_occurrences, reads_condition, condition_read, condition_covered}

-- one number more
pub size_more : (m : ℕ) (f : ℕ → Bool) → size (suc m) f ≡ size m f + cond (f m) 1 0
size_more m f = rw add-one at (length_more f m)

-- a set with at least the same members is at least as large
pub size_less : (m : ℕ) {f g : ℕ → Bool} → ((k : ℕ) → k < m → So (f k) → So (g k)) → size m f ≤ size m g
unfolding below
size_less zero h = omega arith
size_less (suc m) {f} {g} h =
    omega
    (arith, size_less m (λ k l. h k (omega arith)), size_more m f, size_more m g, counted (f m) (g m) (h m (omega arith)))
  where
    counted : (a b : Bool) → (So a → So b) → cond a 1 0 ≤ cond b 1 0
    counted true b h = rw (h refl) (omega arith)
    counted false b h = omega arith

-- a set of numbers below m has at most m members
pub size_most : (m : ℕ) (f : ℕ → Bool) → size m f ≤ m
unfolding below
size_most zero f = omega arith
size_most (suc m) f = omega (arith, size_most m f, size_more m f, one_most (f m))
  where
    one_most : (b : Bool) → cond b 1 0 ≤ 1
    one_most true = omega arith
    one_most false = omega arith

-- and none exactly where no number below m has the property
pub size_is_zero_iff : (m : ℕ) (f : ℕ → Bool) → (size m f ≡ 0) ↔ ((k : ℕ) → k < m → So (f k) → ⊥)
size_is_zero_iff m f = (
  λ e k l t. without (below m f) e (has_below f m k l t),
  λ h. empty (below m f) (λ k i. let r = below_has f m k i in h k r.0 r.1),
)
  where
    without : (l : List ℕ) → length l ≡ 0 → {k : ℕ} → Memᴰ k l → ⊥
    without [] e i = Memᴰ.not-nil i
    without (x ∷ l) e i = omega arith

    empty : (l : List ℕ) → ((k : ℕ) → Memᴰ k l → ⊥) → length l ≡ 0
    empty [] h = refl
    empty (x ∷ l) h = absurd (h x (Memᴰ.head refl))

pub sum_less : (m : ℕ) {f g : ℕ → ℕ} → ((q : ℕ) → q < m → f q ≤ g q) → sum m f ≤ sum m g
unfolding sum
sum_less zero h = omega arith
sum_less (suc m) h = add-le-add (sum_less m (λ q l. h q (omega arith))) (h m (omega arith))

pub sum_most : (m w : ℕ) {f : ℕ → ℕ} → ((q : ℕ) → q < m → f q ≤ w) → sum m f ≤ m * w
unfolding sum
sum_most zero w h = omega arith
sum_most (suc m) w h = rw suc-mul (add-le-add (sum_most m w (λ q l. h q (omega arith))) (h m (omega arith)))

-- the occurrences that mattered are among a requirement's condition rows
pub mattered_few : (b : Bench) → mattered_count b ≤ all_occurrences b
mattered_few b = sum_less b.requirements (λ q _. size_less (length (b.rows q)) (λ p _. left (condition_at (b.rows q) p) _))

-- some number below m
pub some_iff : (m : ℕ) (f : ℕ → Bool) → So (some m 0 f) ↔ ((j : ℕ) × ((j < m) × So (f j)))
some_iff m f = (
  λ t. let h = some_found m 0 f t in (h.0, (omega arith, h.3)),
  λ h. some_from m 0 f h.0 (omega arith) (omega arith) h.1.1,
)

module _ (b : Bench) (c : ℕ) where
  -- row p of requirement q is a condition row that reads condition c
  abbrev pub Reads : ℕ → ℕ → Type 0
  Reads q p = So (condition_at (b.rows q) p) × (first (row_at (b.rows q) p) ≡ c)

  reads_iff : (q p : ℕ) → So (reads_condition b c q p) ↔ Reads q p
  reads_iff q p = Iff.trans (and-eq-true_iff _ _) (Iff.and Iff.rfl (eqb-true _ c, eq-eqb _ c))

  pub condition_read_lem :
      So (condition_read b c) ↔ ((q : ℕ) × (p : ℕ) × (q < b.requirements) × (p < length (b.rows q)) × Reads q p)
  condition_read_lem = (
    λ t.
        let q = (some_iff b.requirements _).0 t in
        let p = (some_iff (length (b.rows q.0)) _).0 q.1.1 in
        (q.0, p.0, q.1.0, p.1.0, (reads_iff q.0 p.0).0 p.1.1),
    λ h.
        (some_iff b.requirements _).1
        (h.0, (h.2, (some_iff (length (b.rows h.0)) _).1 (h.1, (h.3, (reads_iff h.0 h.1).1 h.4)))),
  )

  pub condition_covered_lem :
      So (condition_covered b c)
      ↔ ((q : ℕ) × (p : ℕ) × (j : ℕ) × (q < b.requirements) × (p < length (b.rows q)) × (j < b.runs) × Reads q p × So (pair_covered b q p j))
  condition_covered_lem = (
    λ t.
        let q = (some_iff b.requirements _).0 t in
        let p = (some_iff (length (b.rows q.0)) _).0 q.1.1 in
        let both = (and-eq-true_iff (reads_condition b c q.0 p.0) _).0 p.1.1 in
        let j = (some_iff b.runs _).0 (right (condition_at (b.rows q.0) p.0) _ both.1) in
        (q.0, p.0, j.0, q.1.0, p.1.0, j.1.0, (reads_iff q.0 p.0).0 both.0, j.1.1),
    λ h.
        let reads = h.6 in
        (some_iff b.requirements _).1 (
          h.0,
          (
            h.3,
            (some_iff (length (b.rows h.0)) _).1 (
              h.1,
              (
                h.4,
                (and-eq-true_iff _ _).1
                    ((reads_iff h.0 h.1).1 reads, (and-eq-true_iff _ _).1 (reads.0, (some_iff b.runs _).1 (h.2, (h.5, h.7)))),
              ),
            ),
          ),
        ),
  )
