-- Document 000, Theorem 1: what the occurrence reads moves the truth of a requirement one way only.
-- Assumes nothing.
use mathlib.Core.Path.{◌≡◌, refl, ◌∙◌, subst}
use mathlib.Core.Bool.{Bool, true, false, So}
use mathlib.Core.List.{List}
use Prim.Native.Nat.{ℕ, ◌<◌}
use native.Mathlib.Omega.{arith}
use native.Mathlib.Decide.{ℕ_discrete}
use borrow.Author.Tests.{eqb-true, eq-eqb, ne_eqb}
use lib.ListN.{length}
use Rattle.rows.specs.Rows.{Row, kind_number, first, row_at, named}
use Rattle.rows.specs.Checks.{All, times, is_condition, is_not, IsRequirement}
use Rattle.signals.specs.Signals.{Signal, negation}
use Rattle.signals.specs.Truth.{Reading, truth_of}
use Rattle.signal_laws.proofs.Model.{Model, lower_induction, truth_model}
use Rattle.trap_laws.proofs.Count.{counted, all_counted}
use Rattle.coverage.specs.Coverage.{flip}
use Rattle.coverage.proofs.Monotone.{Le, same_le, negation_le, row_le}

-- f makes a requirement hold at no more steps than g does, read by an occurrence that stands under "not" or does not
abbrev pub Nearer : ℕ → Bool → Signal → Signal → Type 0
Nearer n under f g = (under ≡ false → Le n f g) × (under ≡ true → Le n g f)

-- two readings compare at a row if they compare at p
flip_le : (n p : ℕ) (reads : Reading) (f g : Signal) (r : ℕ) → (r ≡ p → Le n f g) → Le n (flip p f reads r) (flip p g reads r)
flip_le n p reads f g r h = go (ℕ_discrete r p)
  where
    go : Dec (r ≡ p) → Le n (flip p f reads r) (flip p g reads r)
    go (yes e) = rw (eq-eqb r p e) (h e)
    go (no e) = rw (ne_eqb r p e) (same_le n (reads r) (reads r) (λ i l. refl))

module _
    (rows : List Row) (is : IsRequirement rows) (p : ℕ) (under : Bool)
    (under_not : (s : ℕ) → s < length rows → 0 < times p (named (row_at rows s)) → under ≡ is_not (row_at rows s))
    (n : ℕ) (reads : Reading)
  where
    -- the truth of the rows where the occurrence reads f
    truth : Signal → ℕ → Signal
    truth f = truth_of rows (flip p f reads) n

    model : (f : Signal) → Model n (flip p f reads) rows (truth f)
    unfolding truth
    model f = truth_model rows (flip p f reads) n is.lower

    -- what a condition and a "not" mean
    condition_row : (f : Signal) (r : ℕ) → r < length rows → So (is_condition (row_at rows r)) → truth f r ≡ flip p f reads r
    condition_row f r l c = model f r l ∙ rw (eqb-true (kind_number (row_at rows r)) 2 c)

    not_row : (f : Signal) (r : ℕ) → r < length rows → is_not (row_at rows r) ≡ true → truth f r ≡ negation (truth f (first (row_at rows r)))
    not_row f r l c = model f r l ∙ rw (eqb-true (kind_number (row_at rows r)) 3 c)

    module _ (f g : Signal) (near : Nearer n under f g) where
      -- the nearer signal, read by the occurrence, makes each row hold at no more steps
      pub extreme :
          (r : ℕ) → r < length rows → (r ≡ p → under ≡ false) →
          Le n (truth_of rows (flip p f reads) n r) (truth_of rows (flip p g reads) n r)
      unfolding truth
      extreme = lower_induction rows is.lower P step
        where
          P : ℕ → Type 0
          P r = (r ≡ p → under ≡ false) → Le n (truth f r) (truth g r)

          step : (r : ℕ) → r < length rows → All (λ k. (k < r) × P k) (named (row_at rows r)) → P r
          step r l h q = go (is_not (row_at rows r)) refl
            where
              a : ℕ
              a = first (row_at rows r)

              go : (b : Bool) → is_not (row_at rows r) ≡ b → Le n (truth f r) (truth g r)
              go true e =
                  let number = eqb-true (kind_number (row_at rows r)) 3 e in
                  let names : 0 < times a (named (row_at rows r)) = rw (number, eq-eqb a a refl) (omega arith) in
                  let lower : a < r = all_counted (λ k. k < r) (named (row_at rows r)) a (is.lower r l) names in
                  let c = is.not_over r l e in
                  rw (not_row f r l e, not_row g r l e, condition_row f a (omega arith) c, condition_row g a (omega arith) c)
                  (negation_le n _ _
                  (flip_le n p reads g f a (λ z. near.1 (under_not r l (subst (λ (k : ℕ). 0 < times k (named (row_at rows r))) z names) ∙ e))))
              go false e =
                  row_le n (truth f) (truth g) _ _ _ _ (row_at rows r) (model f r l) (model g r l) e (flip_le n p reads f g r (λ z. near.0 (q z)))
                  (counted _ (named (row_at rows r))
                  (λ k m. (all_counted (λ k. (k < r) × P k) (named (row_at rows r)) k h m).1 (λ z. under_not r l (rw z at m) ∙ e)))
