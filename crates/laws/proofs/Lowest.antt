-- "The lowest counts": what `lowest` says, in plain logic.
-- Assumes nothing.
use mathlib.Core.Path.{◌≡◌, refl, sym, ◌∙◌, ap, subst}
use mathlib.Core.Bool.{Bool, true, false, cond, So}
use Rattle.std.specs.Prelude.{None, Some}
use Prim.Native.Nat.{ℕ, zero, suc, ◌+◌, ◌≤◌, ◌<◌}
use native.Mathlib.Omega.{arith}
use native.Mathlib.Decide.{ℕ_discrete}
use Rattle.figures.specs.Numbers.{lowest}

-- f holds at each number from i up to but not including e
abbrev pub Holds : (ℕ → Bool) → ℕ → ℕ → Type 0
Holds f i e = (k : ℕ) → i ≤ k → k < e → So (f k)

pub record Lowest (f : ℕ → Bool) (m i j : ℕ) : Type 0 where
  pub from : i ≤ j
  pub inside : j < i + m
  pub fails : f j ≡ false
  pub below : Holds f i j

-- one number more at the front
holds_more : (f : ℕ → Bool) (i e : ℕ) → So (f i) → Holds f (suc i) e → Holds f i e
holds_more f i e h hs k l g = go (ℕ_discrete i k)
  where
    go : Dec (i ≡ k) → So (f k)
    go (yes q) = subst (λ (x : ℕ). So (f x)) q h
    go (no q) = hs k (omega arith) g

pub lowest_none : (m i : ℕ) (f : ℕ → Bool) → Holds f i (i + m) → lowest m i f ≡ None
unfolding lowest
lowest_none zero i f h = refl
lowest_none (suc m) i f h =
    ap (λ (b : Bool). cond b (lowest m (suc i) f) (Some i)) (h i (omega arith) (omega arith))
    ∙ lowest_none m (suc i) f (λ k l g. h k (omega arith) (omega arith))

pub lowest_some : (m i : ℕ) (f : ℕ → Bool) (j : ℕ) → Lowest f m i j → lowest m i f ≡ Some j
unfolding lowest
lowest_some zero i f j h = absurd (let a = h.from in let b = h.inside in omega arith)
lowest_some (suc m) i f j h = go (ℕ_discrete i j) (lowest_some m (suc i) f j)
  where
    go : Dec (i ≡ j) → (Lowest f m (suc i) j → lowest m (suc i) f ≡ Some j) → cond (f i) (lowest m (suc i) f) (Some i) ≡ Some j
    go (yes q) ih =
        ap (λ (b : Bool). cond b (lowest m (suc i) f) (Some i)) (ap f q ∙ h.fails) ∙ ap Some q
    go (no q) ih =
        let a = h.from in
        let b = h.inside in
        ap (λ (b : Bool). cond b (lowest m (suc i) f) (Some i)) (h.below i (omega arith) (omega arith))
        ∙ ih
        (record
        { from = omega arith; inside = omega arith; fails = h.fails; below = λ k l g. h.below k (omega arith) g })

-- and nothing else: each of the two answers is given exactly then
pub lowest_holds : (m i : ℕ) (f : ℕ → Bool) → lowest m i f ≡ None → Holds f i (i + m)
unfolding lowest
lowest_holds zero i f e = λ k l g. absurd (omega arith)
lowest_holds (suc m) i f e = go (f i) refl e (lowest_holds m (suc i) f)
  where
    go :
        (b : Bool) → f i ≡ b → cond b (lowest m (suc i) f) (Some i) ≡ None →
        (lowest m (suc i) f ≡ None → Holds f (suc i) (suc i + m)) → Holds f i (i + suc m)
    go true h e ih = holds_more f i (i + suc m) h (λ k l g. ih e k l (omega arith))
    go false h e ih = absurd (let z : ◌≡◌ {A = ℕ} 0 1 = cc in omega arith)

pub lowest_is : (m i : ℕ) (f : ℕ → Bool) (j : ℕ) → lowest m i f ≡ Some j → Lowest f m i j
unfolding lowest
lowest_is zero i f j e = absurd (let z : ◌≡◌ {A = ℕ} 0 1 = cc in omega arith)
lowest_is (suc m) i f j e = go (f i) refl e (lowest_is m (suc i) f j)
  where
    go :
        (b : Bool) → f i ≡ b → cond b (lowest m (suc i) f) (Some i) ≡ Some j →
        (lowest m (suc i) f ≡ Some j → Lowest f m (suc i) j) → Lowest f (suc m) i j
    go true h e ih =
        let r = ih e in
        let a = r.from in
        let b = r.inside in
        record { from = omega arith; inside = omega arith; fails = r.fails; below = holds_more f i j h r.below }
    go false h e ih =
        let q : i ≡ j = cc in
        record {
          from = omega arith;
          inside = omega arith;
          fails = ap f (sym q) ∙ h;
          below = λ k l g. absurd (omega arith);
        }

-- a loop that searches from 0: nothing passed; one more passed; it stops at a failure, or passes all m
module _ (f : ℕ → Bool) where
  pub passed_none : Holds f 0 0
  passed_none k l g = absurd (omega arith)

  pub passed_more : (r : ℕ) → Holds f 0 r → So (f r) → Holds f 0 (r + 1)
  passed_more r h t k l g = go (ℕ_discrete r k)
    where
      go : Dec (r ≡ k) → So (f k)
      go (yes q) = subst (λ (x : ℕ). So (f x)) q t
      go (no q) = h k l (omega arith)

  pub stopped_at : (m r : ℕ) → Holds f 0 r → r < m → f r ≡ false → Some r ≡ lowest m 0 f
  stopped_at m r h l e =
      sym (lowest_some m 0 f r (record { from = omega arith; inside = omega arith; fails = e; below = h }))

  pub passed_all : (m r : ℕ) → Holds f 0 r → m ≤ r → None ≡ lowest m 0 f
  passed_all m r h l = sym (lowest_none m 0 f (λ k a b. h k a (omega arith)))
