-- What a row that is not "not" means grows with what it reads and with what the rows that it names mean.
-- Assumes nothing.
use mathlib.Core.Path.{◌≡◌, refl}
use mathlib.Core.Bool.{Bool, true, false, not, ◌&&◌, ◌||◌, So, and-eq-true_iff, or-true}
use Prim.Native.Nat.{ℕ, suc, ◌<◌}
use native.Mathlib.Omega.{arith}
use borrow.Author.Tests.{eqb-false}
use lib.Dec.{eqb}
use Rattle.rows.specs.declared.Kind.{Kind}
use Rattle.rows.specs.Rows.{Row, kind_number, kind, first, second, fields_of, named}
use Rattle.rows.specs.Checks.{All, is_not}
use Rattle.signals.specs.Signals.{Signal, negation}
use Rattle.signals.specs.Truth.{row_meaning}
use Rattle.signals.specs.Column.{cell}
use Rattle.signal_laws.proofs.Bools.{◌⇒◌, apply, Test, all, at}
use Rattle.signal_laws.proofs.ByKind.{needs, needs_of, needs_named, by_number}
use Rattle.signal_laws.proofs.Cells.{row_cell, from_last}

-- wherever a holds in a run of n steps, b does
abbrev pub Le : ℕ → Signal → Signal → Type 0
Le n a b = (i : ℕ) → i < n → So (a i ⇒ b i)

pub same_le : (n : ℕ) (a b : Signal) → ((i : ℕ) → i < n → a i ≡ b i) → Le n a b
same_le n a b h i l = rw (h i l) (at 1 (λ x. x ⇒ x) refl (b i))

pub negation_le : (n : ℕ) (a b : Signal) → Le n b a → Le n (negation a) (negation b)
unfolding negation
negation_le n a b h i l = apply _ _ (at 2 (λ a b. (b ⇒ a) ⇒ not a ⇒ not b) refl (a i) (b i)) (h i l)

-- the same at the next step, where there is one
at_next : (n : ℕ) (a b : Signal) → Le n a b → (i : ℕ) → i < n → So (eqb (suc i) n || (a (suc i) ⇒ b (suc i)))
at_next n a b h i l = go (eqb (suc i) n) refl
  where
    go : (x : Bool) → eqb (suc i) n ≡ x → So (x || (a (suc i) ⇒ b (suc i)))
    go true e = refl
    go false e = h (suc i) (let d = eqb-false (suc i) n e in omega arith)

-- the cells of a kind rise with what they need
abbrev rising : Kind → Test 11
rising k =
    λ own own' a a' x x' b b' s s' last.
    needs (fields_of k) (own ⇒ own') ((a ⇒ a') && (last || (x ⇒ x'))) (b ⇒ b')
    ⇒ (last || (s ⇒ s'))
    ⇒ (cell k own a b x s last ⇒ cell k own' a' b' x' s' last)

-- they do but for "not", whose number is 3
cells_rise : (r : Row) → is_not r ≡ false → So (all 11 (rising (kind r)))
cells_rise r e = rw e at (by_number (λ n k. eqb n 3 || all 11 (rising k)) refl (λ n. or-true (eqb n 3)) (kind_number r))

module _
    (n : ℕ) (v w : ℕ → Signal) (own own' s s' : Signal) (r : Row) (e : s ≡ row_meaning n v own r) (e' : s' ≡ row_meaning n w own' r)
  where
    -- a row that is not "not" holds at no more steps, where what it reads and the rows that it names do
    pub row_le : is_not r ≡ false → Le n own own' → All (λ k. Le n (v k) (w k)) (named r) → Le n s s'
    row_le plain ho h = from_last n (λ i. s i ⇒ s' i) step
      where
        a : ℕ
        a = first r

        b : ℕ
        b = second r

        step : (i : ℕ) → i < n → So (eqb (suc i) n || (s (suc i) ⇒ s' (suc i))) → So (s i ⇒ s' i)
        step i l q =
            rw (row_cell n i l v own (kind r) a b s e, row_cell n i l w own' (kind r) a b s' e')
            (apply _ _
            (apply _ _
            (at 11 (rising (kind r)) (cells_rise r plain) (own i) (own' i) (v a i) (w a i) (v a (suc i)) (w a (suc i))
            (v b i) (w b i) (s (suc i)) (s' (suc i)) (eqb (suc i) n))
            (needs_of (fields_of (kind r)) _ _ _
            (needs_named (fields_of (kind r)) (λ k. Le n (v k) (w k)) a b (ho i l)
            (λ x. (and-eq-true_iff _ _).1 (x i l, at_next n (v a) (w a) x i l))
            (λ x. x i l)
            h)))
            q)
