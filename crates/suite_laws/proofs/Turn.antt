-- Checks in turn: the first refusal is given, in plain logic.
-- Assumes nothing.
use mathlib.Core.Path.{◌≡◌, refl, sym, ◌∙◌, ap}
use mathlib.Core.Logic.Iff
use mathlib.Core.Logic.{◌↔◌, ◌⊎◌, inl, inr, ⊎_elim}
use Prim.Native.Nat.{ℕ, zero, suc, ◌+◌, ◌≤◌, ◌<◌}
use native.Mathlib.Omega.{arith}
use native.Mathlib.Decide.{ℕ_discrete}
use Rattle.figures.specs.declared.Place.{Place}
use Rattle.figures.specs.Refusals.{Outcome, ◌then◌}
use Rattle.figures.specs.Refusals.Outcome.{refused, gives}
use Rattle.laws.proofs.Given.{not_both}
use Rattle.laws.proofs.Order.{Passes}
use Rattle.layout.specs.Checks.{in_turn}
use Rattle.suite_laws.proofs.Right.{in_turn_passes}

-- of two checks the first refuses, or it passes and the second does
refused_either :
    {A B : Type 0} (x : Outcome A) (y : Outcome B) (n : ℕ) (p : Place) →
    ((x then λ _. y) ≡ refused n p) ↔ ((x ≡ refused n p) ⊎ (Passes x × (y ≡ refused n p)))
refused_either (refused k q) y n p = (λ e. inl (cc), ⊎_elim (λ e. cc) (λ h. not_both refl h.0.1))
refused_either (gives a) y n p = (λ e. inr ((a, refl), e), ⊎_elim (λ e. not_both e refl) (λ h. h.1))

-- of the m checks from i on, number k refuses so, and each earlier one passes
abbrev pub FirstRefused : ℕ → ℕ → (ℕ → Outcome (Unit {0})) → ℕ → Place → Type 0
FirstRefused m i f n p =
    (k : ℕ) × ((i ≤ k) × ((k < i + m) × (((l : ℕ) → i ≤ l → l < k → Passes (f l)) × (f k ≡ refused n p))))

pub turn_refused :
    (m i n : ℕ) (p : Place) (f : ℕ → Outcome (Unit {0})) →
    (in_turn m i f ≡ refused n p) ↔ FirstRefused m i f n p
unfolding in_turn
turn_refused zero i n p f = (λ e. not_both e refl, λ h. let (k, (from, (inside, _))) = h in absurd (omega arith))
turn_refused (suc m) i n p f =
    let later = turn_refused m (suc i) n p f in
    Iff.trans (refused_either (f i) (in_turn m (suc i) f) n p) (
      ⊎_elim here (λ h. further h.0 (later.0 h.1)),
      λ h. back later.1 h (ℕ_discrete i h.0),
    )
  where
    here : f i ≡ refused n p → FirstRefused (suc m) i f n p
    here e = (i, (omega arith, (omega arith, (λ l from below. absurd (omega arith), e))))

    further : Passes (f i) → FirstRefused m (suc i) f n p → FirstRefused (suc m) i f n p
    further first h =
        let (k, (from, (inside, (earlier, e)))) = h in
        (k, (omega arith, (omega arith, (λ l a b. go l a b (ℕ_discrete i l), e))))
      where
        go : (l : ℕ) → i ≤ l → l < h.0 → Dec (i ≡ l) → Passes (f l)
        go l a b (yes q) = rw q at first
        go l a b (no q) = h.1.1.1.0 l (omega arith) b

    back :
        (FirstRefused m (suc i) f n p → in_turn m (suc i) f ≡ refused n p) → (h : FirstRefused (suc m) i f n p) → Dec (i ≡ h.0) →
        (f i ≡ refused n p) ⊎ (Passes (f i) × (in_turn m (suc i) f ≡ refused n p))
    back ih (k, (from, (inside, (earlier, e)))) (yes q) = inl (cc)
    back ih (k, (from, (inside, (earlier, e)))) (no q) =
        inr (earlier i (omega arith) (omega arith), ih (k, (omega arith, (omega arith, (λ l a b. earlier l (omega arith) b, e)))))

-- a loop that goes through the checks from 0 on: it stops at a refusal, or all pass
pub turn_stopped :
    (m q : ℕ) (f : ℕ → Outcome (Unit {0})) {n : ℕ} {p : Place} → ((k : ℕ) → k < q → f k ≡ gives tt) → q < m → f q ≡ refused n p →
    refused n p ≡ in_turn m 0 f
turn_stopped m q f {n} {p} passed l e =
    sym ((turn_refused m 0 n p f).1 (q, (omega arith, (omega arith, (λ k a b. (tt, passed k b), e)))))

pub turn_all : (m : ℕ) (f : ℕ → Outcome (Unit {0})) → ((k : ℕ) → k < m → f k ≡ gives tt) → gives tt ≡ in_turn m 0 f
turn_all m f passed = sym ((in_turn_passes m 0 f).1 (λ k a b. (tt, passed k (omega arith)))).1
