-- Which numbers a chain of checks refuses by, and at which place a check refuses at its lowest, in plain logic.
-- Assumes nothing.
use mathlib.Core.Path.{◌≡◌, refl, sym, ◌∙◌, ap, subst}
use mathlib.Core.Logic.Iff
use mathlib.Core.Logic.{◌↔◌}
use mathlib.Core.Bool.{Bool}
use Rattle.std.specs.Prelude.{Option, None, Some}
use Prim.Native.Nat.{ℕ, suc, ◌≤◌, ◌<◌}
use native.Mathlib.Omega.{arith}
use Rattle.figures.specs.declared.Place.{Place}
use Rattle.figures.specs.declared.Refusal.{Refusal}
use Rattle.figures.specs.Refusals.{Outcome, refusal, ◌then◌}
use Rattle.figures.specs.Refusals.Outcome.{refused, gives}
use Rattle.figures.specs.Numbers.{lowest, refused_at}
use Rattle.laws.proofs.Given.{not_both}
use Rattle.laws.proofs.Lowest.{Lowest, lowest_some, lowest_is}
use Rattle.laws.proofs.Order.{Passes, Numbered, same_number, skip, stop}
use Rattle.laws.proofs.Passed.{Within}

-- each number that it refuses by is so
abbrev pub Refuses : {A : Type 0} → (ℕ → Type 0) → Outcome A → Type 0
Refuses P o = (n : ℕ) (p : Place) → o ≡ refused n p → P n

pub refuses_gives : {A : Type 0} (P : ℕ → Type 0) (a : A) → Refuses P (gives a)
refuses_gives P a n p e = not_both e refl

pub refuses_then :
    {A B : Type 0} (P : ℕ → Type 0) (x : Outcome A) (f : A → Outcome B) → Refuses P x → ((a : A) → Refuses P (f a)) →
    Refuses P (x then f)
refuses_then P (refused k q) f first later n p e = subst P (same_number e) (first k q refl)
refuses_then P (gives a) f first later n p e = later a n p e

-- a check by number k, then checks by the numbers after k up to `most`
module _ {A B : Type 0} (x : Outcome A) (y : Outcome B) {k : ℕ} where
  pub in_order : (most : ℕ) → k ≤ most → Numbered x k → Refuses (Within (suc k) most) y → Refuses (Within k most) (x then λ _. y)
  in_order most l one later =
      refuses_then (Within k most) x (λ _. y)
      (λ n p e. let same = one n p e in (omega arith, omega arith))
      (λ _ n p e. let h = later n p e in (omega arith, omega arith))

  -- what refuses by k is the check
  pub stop_at : {most : ℕ} {p : Place} {Q : Type 0} → Refuses (Within (suc k) most) y → (x ≡ refused k p) ↔ Q → ((x then λ _. y) ≡ refused k p) ↔ Q
  stop_at {p = p} later is = Iff.trans (stop y k x p (λ q e. let h = later k q e in omega arith)) is

  -- past it, it passed
  pub past_it :
      {n : ℕ} {p : Place} {P Q : Type 0} → Numbered x k → k < n → Passes x ↔ P → (y ≡ refused n p) ↔ Q →
      ((x then λ _. y) ≡ refused n p) ↔ (P × Q)
  past_it {n} {p} one l passed is = Iff.trans (skip y n x p one (λ e. omega arith)) (Iff.and passed is)

-- a check that refuses at the lowest place where it fails: which place that is
pub lowest_at :
    (at : ℕ → Refusal) (n : ℕ) (place : ℕ → Place) → ((k : ℕ) → refusal {A = Unit {0}} (at k) ≡ refused n (place k)) →
    (m : ℕ) (f : ℕ → Bool) (p : Place) → (refused_at at (lowest m 0 f) ≡ refused n p) ↔ ((k : ℕ) × ((p ≡ place k) × Lowest f m 0 k))
lowest_at at n place is m f p = (
  go (lowest m 0 f) refl,
  λ h. ap (refused_at at) (lowest_some m 0 f h.0 h.1.1) ∙ is h.0 ∙ ap (refused n) (sym h.1.0),
)
  where
    same_place : {k l : ℕ} {q r : Place} → ◌≡◌ {A = Outcome (Unit {0})} (refused k q) (refused l r) → r ≡ q
    same_place e = cc

    go : (l : Option ℕ) → lowest m 0 f ≡ l → refused_at at l ≡ refused n p → (k : ℕ) × ((p ≡ place k) × Lowest f m 0 k)
    go None q e = not_both e refl
    go (Some k) q e = (k, (same_place (sym (is k) ∙ e), lowest_is m 0 f k q))
