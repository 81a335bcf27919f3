-- A row's value at a step from values at this step and the next: `cell` is right, and reads of them only what the row names.
-- Assumes nothing.
use mathlib.Core.Path.{◌≡◌, refl, ◌∙◌, ap}
use mathlib.Core.Logic.{inr}
use mathlib.Core.Bool.{Bool, true, false, not, cond, ◌&&◌, ◌||◌, So, and-eq-true_iff}
use Prim.Native.Nat.{ℕ, zero, suc, ◌+◌, ◌-◌, ◌<◌}
use native.Mathlib.Omega.{arith}
use borrow.Author.Tests.{eqb-true, eqb-false, eq-eqb, lt-ltb, le-ltb}
use lib.Dec.{eqb, ltb}
use Rattle.rows.specs.declared.Kind.{Kind}
use Rattle.rows.specs.Rows.{fields_of, named_by}
use Rattle.rows.specs.declared.Kind.TheVariants.{False, True, Condition, Not, And, Or, StrongNext, WeakNext, Until, Release, Finally, Globally, WeakUntil, Unknown}
use Rattle.rows.specs.Checks.{All}
use Rattle.signals.specs.Signals.{Signal, negation, both, either, strong_next, weak_next}
use Rattle.signals.specs.Truth.{meaning}
use Rattle.signals.specs.Column.{cell}
use Rattle.signal_laws.proofs.Bools.{◌⇒◌, ◌==◌, equal, same, apply, Test, all, at}
use Rattle.signal_laws.proofs.ByKind.{needs, needs_of, needs_named, by_kind}
use Rattle.signal_laws.proofs.Unfold.{FromEnd, until_unfolds, release_unfolds, finally_unfolds, globally_unfolds, weak_until_unfolds}
use Rattle.signal_laws.proofs.Plain.{or_means}

-- the cells of a kind are F, with e for the next value at the last step
abbrev cells : Kind → (Bool → Bool → Bool → Bool) → Bool → Test 6
cells k F e = λ own a b a_next next last. F a b (cond last e next) == cell k own a b a_next next last

module _ (n i : ℕ) (l : i < n) where
  next_test : ltb (suc i) n ≡ not (eqb (suc i) n)
  next_test = go (eqb (suc i) n) refl
    where
      go : (b : Bool) → eqb (suc i) n ≡ b → ltb (suc i) n ≡ not b
      go true e = let q = eqb-true (suc i) n e in le-ltb (suc i) n (omega arith)
      go false e = let q = eqb-false (suc i) n e in lt-ltb (suc i) n (omega arith)

  -- a signal that comes from the end by a kind's cells
  temporal :
      (k : Kind) (F : Bool → Bool → Bool → Bool) (e : Bool) → So (all 6 (cells k F e)) → (own a b s : Signal) → FromEnd n F e a b s →
      s i ≡ cell k (own i) (a i) (b i) (a (suc i)) (s (suc i)) (eqb (suc i) n)
  temporal k F e t own a b s h =
      h.step i l
      ∙ ap (F (a i) (b i)) (go (eqb (suc i) n) refl)
      ∙ equal _ _ (at 6 (cells k F e) t (own i) (a i) (b i) (a (suc i)) (s (suc i)) (eqb (suc i) n))
    where
      go : (b : Bool) → eqb (suc i) n ≡ b → s (suc i) ≡ cond b e (s (suc i))
      go true q = let m = eqb-true (suc i) n q in h.end (suc i) (omega arith)
      go false q = refl

  -- the meaning of a row at a step of the run
  pub cell_law :
      (v : ℕ → Signal) (own : Signal) (k : Kind) (a b : ℕ) →
      meaning n v own k a b i ≡ cell k (own i) (v a i) (v b i) (v a (suc i)) (meaning n v own k a b (suc i)) (eqb (suc i) n)
  unfolding negation both either strong_next weak_next
  cell_law v own False a b = refl
  cell_law v own True a b = refl
  cell_law v own Condition a b = refl
  cell_law v own Not a b = refl
  cell_law v own And a b = refl
  cell_law v own Or a b = refl
  cell_law v own StrongNext a b = ap (λ (x : Bool). x && v a (suc i)) next_test
  cell_law v own WeakNext a b = refl
  cell_law v own Until a b = temporal Until _ false refl own (v a) (v b) _ (until_unfolds n (v a) (v b))
  cell_law v own Release a b = temporal Release _ true refl own (v a) (v b) _ (release_unfolds n (v a) (v b))
  cell_law v own Finally a b = temporal Finally _ false refl own (v a) (v b) _ (finally_unfolds n (v a) (v b))
  cell_law v own Globally a b = temporal Globally _ true refl own (v a) (v b) _ (globally_unfolds n (v a) (v b))
  cell_law v own WeakUntil a b = temporal WeakUntil _ true refl own (v a) (v b) _ (weak_until_unfolds n (v a) (v b))
  cell_law v own Unknown a b = refl

  -- the same of a signal that is the meaning of a row
  pub row_cell :
      (v : ℕ → Signal) (own : Signal) (k : Kind) (a b : ℕ) (s : Signal) → s ≡ meaning n v own k a b →
      s i ≡ cell k (own i) (v a i) (v b i) (v a (suc i)) (s (suc i)) (eqb (suc i) n)
  row_cell v own k a b s e = rw e (cell_law v own k a b)

-- a cell is the same where the values of the rows named are the same
pub cell_cong :
    (k : Kind) (own s last : Bool) (f f' g g' : ℕ → Bool) (a b : ℕ) →
    All (λ j. (f j ≡ f' j) × (g j ≡ g' j)) (named_by (fields_of k) a b) →
    cell k own (f a) (f b) (g a) s last ≡ cell k own (f' a) (f' b) (g' a) s last
cell_cong k own s last f f' g g' a b h =
    equal _ _
    (apply _ _ (at 9 (test k) (by_kind (λ k. all 9 (test k)) refl refl k) own (f a) (f' a) (g a) (g' a) (f b) (f' b) s last)
    (needs_of (fields_of k) _ _ _
    (needs_named (fields_of k) (λ j. (f j ≡ f' j) × (g j ≡ g' j)) a b refl
    (λ e. (and-eq-true_iff _ _).1 (same _ _ e.0, same _ _ e.1))
    (λ e. same _ _ e.0)
    h)))
  where
    test : Kind → Test 9
    test k =
        λ own a a' x x' b b' s last.
        needs (fields_of k) true ((a == a') && (x == x')) (b == b') ⇒ cell k own a b x s last == cell k own a' b' x' s last

-- at the last step no next value counts
pub cell_last : (k : Kind) (own a b x y x' y' : Bool) → cell k own a b x y true ≡ cell k own a b x' y' true
cell_last k own a b x y x' y' = equal _ _ (at 7 (test k) (by_kind (λ k. all 7 (test k)) refl refl k) own a b x y x' y')
  where
    test : Kind → Test 7
    test k = λ own a b x y x' y'. cell k own a b x y true == cell k own a b x' y' true

-- what holds at a step if it holds at the next, or there is none, holds at every step of the run
pub from_last : (n : ℕ) (P : Signal) → ((i : ℕ) → i < n → So (eqb (suc i) n || P (suc i)) → So (P i)) → (i : ℕ) → i < n → So (P i)
from_last n P step i l = go (n - suc i) i (omega arith)
  where
    go : (m i : ℕ) → suc i + m ≡ n → So (P i)
    go zero i e = step i (omega arith) (rw (eq-eqb (suc i) n (omega arith)))
    go (suc m) i e = step i (omega arith) ((or_means (eqb (suc i) n) _).1 (inr (go m (suc i) (omega arith))))
