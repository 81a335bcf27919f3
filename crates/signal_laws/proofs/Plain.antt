-- The truth of each kind in plain logic: the laws of `some` and `every`, of the signals, and one law of every row of a table.
-- Assumes nothing.
use mathlib.Core.Path.{◌≡◌, refl, sym, ◌∙◌, ap}
use mathlib.Core.Logic.Iff
use mathlib.Core.Logic.{◌↔◌, ◌⊎◌, inl, inr, ⊎_elim, ⊎_map}
use mathlib.Core.Bool.{Bool, true, false, not, ◌||◌, So, false≢true, and-eq-true_iff}
use mathlib.Core.List.{List}
use Prim.Native.Nat.{ℕ, zero, suc, ◌+◌, ◌-◌, ◌≤◌, ◌<◌}
use native.Mathlib.Omega.{arith}
use native.Mathlib.Decide.{ℕ_discrete}
use borrow.Author.Tests.{eqb-true, eq-eqb, ltb-true, lt-ltb}
use lib.ListN.{length}
use Rattle.rows.specs.declared.Kind.{Kind}
use Rattle.rows.specs.Rows.{Row, kind, first, second, row_at}
use Rattle.rows.specs.declared.Kind.TheVariants.{False, True, Condition, Not, And, Or, StrongNext, WeakNext, Until, Release, Finally, Globally, WeakUntil, Unknown}
use Rattle.signals.specs.Signals.{Signal, some, every, negation, both, either, strong_next, weak_next, until, release, finally, globally, weak_until}
use Rattle.signals.specs.Truth.{meaning, Reading, truth_of}
use Rattle.signal_laws.proofs.Unfold.{dual}
use Rattle.signal_laws.proofs.Model.{Lower, truth_model}

-- the tests `not` and `||`; `&&` is and-eq-true_iff
pub not_means : (a : Bool) → So (not a) ↔ (So a → ⊥)
not_means true = (λ t _. false≢true t, λ h. absurd (h refl))
not_means false = (λ _. false≢true, λ _. refl)

pub or_means : (a b : Bool) → So (a || b) ↔ (So a ⊎ So b)
or_means true b = (inl, λ _. refl)
or_means false b = (inr, ⊎_elim (λ t. absurd (false≢true t)) (λ t. t))

either_iff : {A B C D : Type 0} → A ↔ C → B ↔ D → (A ⊎ B) ↔ (C ⊎ D)
either_iff f g = (⊎_map f.0 g.0, ⊎_map f.1 g.1)

-- P at some, at every step from i up to but not including m
abbrev pub Some : ℕ → ℕ → (ℕ → Type 0) → Type 0
Some i m P = (j : ℕ) × (i ≤ j) × (j < m) × P j

abbrev pub Every : ℕ → ℕ → (ℕ → Type 0) → Type 0
Every i m P = (j : ℕ) → i ≤ j → j < m → P j

-- f holds at some of the m steps from i on exactly where there is such a step
pub some_found : (m i : ℕ) (f : Signal) → So (some m i f) → Some i (i + m) (λ j. So (f j))
unfolding some
some_found zero i f t = absurd (false≢true t)
some_found (suc m) i f t =
    ⊎_elim (λ e. (i, omega arith, omega arith, e))
    (λ e. let r = some_found m (suc i) f e in (r.0, omega (arith, r.1), omega (arith, r.2), r.3))
    ((or_means (f i) _).0 t)

pub some_from : (m i : ℕ) (f : Signal) (j : ℕ) → i ≤ j → j < i + m → So (f j) → So (some m i f)
unfolding some
some_from zero i f j l h t = absurd (omega arith)
some_from (suc m) i f j l h t = (or_means (f i) _).1 (go (ℕ_discrete i j) (λ q. some_from m (suc i) f j q (omega arith) t))
  where
    go : Dec (i ≡ j) → (suc i ≤ j → So (some m (suc i) f)) → So (f i) ⊎ So (some m (suc i) f)
    go (yes e) g = inl (rw e t)
    go (no e) g = inr (g (omega arith))

-- f holds at every one of the m steps from i on exactly where it holds at each
pub every_at : (m i : ℕ) (f : Signal) → So (every m i f) → Every i (i + m) (λ j. So (f j))
unfolding negation
every_at m i f t j l h = stable (f j) (λ x. (not_means _).0 (rw (dual m i f) at t) (some_from m i (negation f) j l h x))
  where
    stable : (b : Bool) → (So (not b) → ⊥) → So b
    stable true h = refl
    stable false h = absurd (h refl)

pub every_from : (m i : ℕ) (f : Signal) → Every i (i + m) (λ j. So (f j)) → So (every m i f)
unfolding negation
every_from m i f h =
    rw (dual m i f)
    ((not_means _).1 (λ t. let r = some_found m i (negation f) t in (not_means (f r.0)).0 r.3 (h r.0 r.1 r.2)))

module _ (i m : ℕ) (l : i ≤ m) (f : Signal) where
  up_to : i + (m - i) ≡ m
  up_to = omega arith

  some_means : So (some (m - i) i f) ↔ Some i m (λ j. So (f j))
  some_means =
      (λ t. rw up_to at (some_found (m - i) i f t), λ h. some_from (m - i) i f h.0 h.1 (omega (arith, h.2)) h.3)

  every_means : So (every (m - i) i f) ↔ Every i m (λ j. So (f j))
  every_means = (λ t. rw up_to at (every_at (m - i) i f t), λ h. every_from (m - i) i f (rw up_to h))

-- b at some step j from i on, and a at every step before j
abbrev pub UntilIs : ℕ → Signal → Signal → ℕ → Type 0
UntilIs n a b i = (j : ℕ) × (i ≤ j) × (j < n) × So (b j) × ((k : ℕ) → i ≤ k → k < j → So (a k))

-- each signal at a step: what document 01 says of its kind
pub negation_means : (a : Signal) (i : ℕ) → So (negation a i) ↔ (So (a i) → ⊥)
unfolding negation
negation_means a i = not_means (a i)

module _ (a b : Signal) (i : ℕ) where
  pub both_means : So (both a b i) ↔ (So (a i) × So (b i))
  unfolding both
  both_means = and-eq-true_iff (a i) (b i)

  pub either_means : So (either a b i) ↔ (So (a i) ⊎ So (b i))
  unfolding either
  either_means = or_means (a i) (b i)

module _ (n : ℕ) (a : Signal) (i : ℕ) where
  pub strong_next_means : So (strong_next n a i) ↔ ((suc i < n) × So (a (suc i)))
  unfolding strong_next
  strong_next_means = Iff.trans (and-eq-true_iff _ _) (Iff.and (ltb-true (suc i) n, lt-ltb (suc i) n) Iff.rfl)

  pub weak_next_means : So (weak_next n a i) ↔ ((suc i ≡ n) ⊎ So (a (suc i)))
  unfolding weak_next
  weak_next_means = Iff.trans (or_means _ _) (either_iff (eqb-true (suc i) n, eq-eqb (suc i) n) Iff.rfl)

  pub finally_means : i ≤ n → So (finally n a i) ↔ Some i n (λ j. So (a j))
  unfolding finally
  finally_means l = some_means i n l a

  pub globally_means : i ≤ n → So (globally n a i) ↔ Every i n (λ j. So (a j))
  unfolding globally
  globally_means l = every_means i n l a

module _ (n : ℕ) (a b : Signal) (i : ℕ) (l : i ≤ n) where
  pub until_means : So (until n a b i) ↔ UntilIs n a b i
  unfolding until
  until_means = (
    λ t.
        let r = (some_means i n l _).0 t in
        let h = (and-eq-true_iff (b r.0) _).0 r.3 in
        (r.0, r.1, r.2, h.0, (every_means i r.0 r.1 a).0 h.1),
    λ r.
        (some_means i n l _).1
        (r.0, r.1, r.2, (and-eq-true_iff (b r.0) _).1 (r.3, (every_means i r.0 r.1 a).1 r.4)),
  )

  pub release_means : So (release n a b i) ↔ Every i n (λ j. So (b j) ⊎ Some i j (λ k. So (a k)))
  unfolding release
  release_means = (
    λ t j x y. (either_iff Iff.rfl (some_means i j x a)).0 ((or_means _ _).0 ((every_means i n l _).0 t j x y)),
    λ h. (every_means i n l _).1 (λ j x y. (or_means (b j) _).1 ((either_iff Iff.rfl (some_means i j x a)).1 (h j x y))),
  )

  pub weak_until_means : So (weak_until n a b i) ↔ (UntilIs n a b i ⊎ Every i n (λ j. So (a j)))
  unfolding weak_until
  weak_until_means = Iff.trans (or_means _ _) (either_iff until_means (globally_means n a i l))

-- what a row of a kind says at step i of n, v the truth of the rows that it names and own what it reads if it is a condition
abbrev pub says : Kind → ℕ → (ℕ → Signal) → Signal → ℕ → ℕ → ℕ → Type 0
says False n v own a b i = ⊥
says True n v own a b i = Unit {0}
says Condition n v own a b i = So (own i)
says Not n v own a b i = So (v a i) → ⊥
says And n v own a b i = So (v a i) × So (v b i)
says Or n v own a b i = So (v a i) ⊎ So (v b i)
says StrongNext n v own a b i = (suc i < n) × So (v a (suc i))
says WeakNext n v own a b i = (suc i ≡ n) ⊎ So (v a (suc i))
says Until n v own a b i = UntilIs n (v a) (v b) i
says Release n v own a b i = Every i n (λ j. So (v b j) ⊎ Some i j (λ k. So (v a k)))
says Finally n v own a b i = Some i n (λ j. So (v a j))
says Globally n v own a b i = Every i n (λ j. So (v a j))
says WeakUntil n v own a b i = UntilIs n (v a) (v b) i ⊎ Every i n (λ j. So (v a j))
says Unknown n v own a b i = ⊥

meaning_means :
    (n : ℕ) (v : ℕ → Signal) (own : Signal) (k : Kind) (a b i : ℕ) → i ≤ n → So (meaning n v own k a b i) ↔ says k n v own a b i
meaning_means n v own False a b i l = (false≢true, λ x. absurd x)
meaning_means n v own True a b i l = (λ _. tt, λ _. refl)
meaning_means n v own Condition a b i l = Iff.rfl
meaning_means n v own Not a b i l = negation_means (v a) i
meaning_means n v own And a b i l = both_means (v a) (v b) i
meaning_means n v own Or a b i l = either_means (v a) (v b) i
meaning_means n v own StrongNext a b i l = strong_next_means n (v a) i
meaning_means n v own WeakNext a b i l = weak_next_means n (v a) i
meaning_means n v own Until a b i l = until_means n (v a) (v b) i l
meaning_means n v own Release a b i l = release_means n (v a) (v b) i l
meaning_means n v own Finally a b i l = finally_means n (v a) i l
meaning_means n v own Globally a b i l = globally_means n (v a) i l
meaning_means n v own WeakUntil a b i l = weak_until_means n (v a) (v b) i l
meaning_means n v own Unknown a b i l = (false≢true, λ x. absurd x)

-- the truth of a row at a step of the run is what its kind says
pub truth_means :
    (rows : List Row) (reads : Reading) (n : ℕ) → Lower rows → (r i : ℕ) → r < length rows → i < n →
    So (truth_of rows reads n r i)
    ↔ says (kind (row_at rows r)) n (truth_of rows reads n) (reads r) (first (row_at rows r)) (second (row_at rows r)) i
truth_means rows reads n lower r i l li =
    let is = ap (λ (s : Signal). s i) (truth_model rows reads n lower r l) in
    Iff.trans (λ t. sym is ∙ t, λ t. is ∙ t) (meaning_means n _ (reads r) (kind (row_at rows r)) _ _ i (omega arith))
