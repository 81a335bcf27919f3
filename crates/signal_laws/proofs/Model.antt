-- A model of a table gives each row the meaning that it has by the rows that it names. Truth is the model of a table whose rows name lower rows.
-- Assumes nothing.
use mathlib.Core.Path.{◌≡◌, refl, sym, ◌∙◌, ap, ap₂}
use mathlib.Core.List.{List, [], ◌∷◌, ◌++◌}
use Prim.Native.Nat.{ℕ, zero, suc, ◌<◌}
use native.Mathlib.Omega.{arith}
use lib.ListN.{length, length-append, get_or-append}
use Rattle.rows.specs.declared.Kind.{Kind}
use Rattle.rows.specs.Rows.{Row, kind, first, second, row_at, fields_of, named}
use Rattle.rows.specs.declared.Kind.TheVariants.{False, True, Condition, Not, And, Or, StrongNext, WeakNext, Until, Release, Finally, Globally, WeakUntil, Unknown}
use Rattle.rows.specs.Checks.{All}
use Rattle.signals.specs.Signals.{Signal, negation, both, either, strong_next, weak_next, until, release, finally, globally, weak_until}
use Rattle.signals.specs.Truth.{meaning, row_meaning, Reading, deep, truth_of}
use Rattle.signal_laws.proofs.ByKind.{Needs, needs_named}

pub AllMap : {P Q : ℕ → Type 0} (l : List ℕ) → ((k : ℕ) → P k → Q k) → All P l → All Q l
AllMap [] f h = tt
AllMap (k ∷ ks) f h = (f k h.0, AllMap ks f h.1)

abbrev pub Lower : List Row → Type 0
Lower rows = (r : ℕ) → r < length rows → All (λ k. k < r) (named (row_at rows r))

abbrev pub Model : ℕ → Reading → List Row → (ℕ → Signal) → Type 0
Model n reads rows v = (r : ℕ) → r < length rows → v r ≡ row_meaning n v (reads r) (row_at rows r)

-- a meaning is the same where what it needs is the same
pub meaning_cong :
    (n : ℕ) (v w : ℕ → Signal) (own own' : Signal) (k : Kind) (a b a' b' : ℕ) →
    Needs (fields_of k) (own ≡ own') (v a ≡ w a') (v b ≡ w b') → meaning n v own k a b ≡ meaning n w own' k a' b'
meaning_cong n v w own own' False a b a' b' h = refl
meaning_cong n v w own own' True a b a' b' h = refl
meaning_cong n v w own own' Condition a b a' b' h = h
meaning_cong n v w own own' Not a b a' b' h = ap negation h
meaning_cong n v w own own' And a b a' b' h = ap₂ both h.0 h.1
meaning_cong n v w own own' Or a b a' b' h = ap₂ either h.0 h.1
meaning_cong n v w own own' StrongNext a b a' b' h = ap (strong_next n) h
meaning_cong n v w own own' WeakNext a b a' b' h = ap (weak_next n) h
meaning_cong n v w own own' Until a b a' b' h = ap₂ (until n) h.0 h.1
meaning_cong n v w own own' Release a b a' b' h = ap₂ (release n) h.0 h.1
meaning_cong n v w own own' Finally a b a' b' h = ap (finally n) h
meaning_cong n v w own own' Globally a b a' b' h = ap (globally n) h
meaning_cong n v w own own' WeakUntil a b a' b' h = ap₂ (weak_until n) h.0 h.1
meaning_cong n v w own own' Unknown a b a' b' h = refl

-- a row means the same where it reads the same and the rows that it names mean the same
pub row_cong :
    (n : ℕ) (v w : ℕ → Signal) (own own' : Signal) (r : Row) → own ≡ own' → All (λ k. v k ≡ w k) (named r) →
    row_meaning n v own r ≡ row_meaning n w own' r
row_cong n v w own own' r e h =
    meaning_cong n v w own own' (kind r) _ _ _ _ (needs_named (fields_of (kind r)) (λ k. v k ≡ w k) (first r) (second r) e (λ q. q) (λ q. q) h)

-- what holds of a row if it holds of the lower rows that it names holds of every row
pub lower_induction :
    (rows : List Row) → Lower rows → (P : ℕ → Type 0) →
    ((r : ℕ) → r < length rows → All (λ k. (k < r) × P k) (named (row_at rows r)) → P r) → (r : ℕ) → r < length rows → P r
lower_induction rows lower P step r l = go (suc r) r (omega arith) l
  where
    go : (d r : ℕ) → r < d → r < length rows → P r
    go zero r h l = absurd (omega arith)
    go (suc d) r h l = step r l (AllMap (named (row_at rows r)) (λ k m. (m, go d k (omega arith) (omega arith))) (lower r l))

module _ (rows : List Row) (reads : Reading) (n : ℕ) (lower : Lower rows) where
  deep_enough : (r : ℕ) → r < length rows → (d : ℕ) → r < d → deep rows reads n d r ≡ truth_of rows reads n r
  unfolding deep truth_of
  deep_enough = lower_induction rows lower _ step
    where
      Enough : ℕ → Type 0
      Enough r = (d : ℕ) → r < d → deep rows reads n d r ≡ deep rows reads n (suc r) r

      step : (r : ℕ) → r < length rows → All (λ k. (k < r) × Enough k) (named (row_at rows r)) → Enough r
      step r l h zero p = absurd (omega arith)
      step r l h (suc d) p =
          row_cong n _ _ _ _ (row_at rows r) refl
          (AllMap (named (row_at rows r)) (λ k q. let m = q.0 in q.1 d (omega arith) ∙ sym (q.1 r m)) h)

  -- truth is a model
  pub truth_model : Model n reads rows (truth_of rows reads n)
  unfolding deep truth_of
  truth_model r l =
      row_cong n _ _ _ _ (row_at rows r) refl
      (AllMap (named (row_at rows r)) (λ k m. deep_enough k (omega arith) r m) (lower r l))

-- models over readings that agree on the table agree on it
pub agree :
    (n : ℕ) (reads reads' : Reading) (rows : List Row) (v w : ℕ → Signal) → Lower rows → Model n reads rows v → Model n reads' rows w →
    ((r : ℕ) → r < length rows → reads r ≡ reads' r) → (r : ℕ) → r < length rows → v r ≡ w r
agree n reads reads' rows v w lower m m' same =
    lower_induction rows lower (λ r. v r ≡ w r)
    (λ r l h. m r l ∙ row_cong n v w _ _ (row_at rows r) (same r l) (AllMap (named (row_at rows r)) (λ k q. q.1) h) ∙ sym (m' r l))

-- a model of a longer table is a model of its first rows
pub model_front : (n : ℕ) (reads : Reading) (rows more : List Row) (v : ℕ → Signal) → Model n reads (rows ++ more) v → Model n reads rows v
model_front n reads rows more v m r l = rw (get_or-append rows more [] r l) at (m r (omega (arith, length-append rows more)))

-- the rows of a table mean the same in a longer table
pub truth_front :
    (n : ℕ) (reads : Reading) (rows more : List Row) → Lower rows → Lower (rows ++ more) → (r : ℕ) → r < length rows →
    truth_of (rows ++ more) reads n r ≡ truth_of rows reads n r
truth_front n reads rows more lower lower' =
    agree n reads reads rows _ _ lower (model_front n reads rows more _ (truth_model (rows ++ more) reads n lower'))
    (truth_model rows reads n lower) (λ r l. refl)
