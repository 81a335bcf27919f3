-- The unfolding laws: each temporal kind at a step from the next step, and past the end of the run.
-- Assumes nothing.
use mathlib.Core.Path.{◌≡◌, refl, sym, ◌∙◌, ap, ap₂}
use mathlib.Core.Bool.{Bool, true, false, not, ◌&&◌, ◌||◌, So, and-true, not-not}
use Prim.Native.Nat.{ℕ, zero, suc, ◌-◌, ◌≤◌, ◌<◌}
use native.Mathlib.Omega.{arith}
use Rattle.signals.specs.Signals.{Signal, some, every, negation, until, release, finally, globally, weak_until}
use Rattle.signal_laws.proofs.Bools.{◌==◌, equal, Test, all, at}

-- s comes from the end of the run: e past it, and before it F of the two children's values and of its own next value
pub record FromEnd (n : ℕ) (F : Bool → Bool → Bool → Bool) (e : Bool) (a b s : Signal) : Type 0 where
  pub step : (i : ℕ) → i < n → s i ≡ F (a i) (b i) (s (suc i))
  pub end : (i : ℕ) → n ≤ i → s i ≡ e

some_cong : (m i : ℕ) (f g : Signal) → ((j : ℕ) → i ≤ j → f j ≡ g j) → some m i f ≡ some m i g
unfolding some
some_cong zero i f g h = refl
some_cong (suc m) i f g h = ap₂ ◌||◌ (h i (omega arith)) (some_cong m (suc i) f g (λ j l. h j (omega arith)))

some_and : (x : Bool) (m i : ℕ) (f : Signal) → some m i (λ j. x && f j) ≡ x && some m i f
unfolding some
some_and true m i f = refl
some_and false zero i f = refl
some_and false (suc m) i f = some_and false m (suc i) f

-- every is the dual of some
pub dual : (m i : ℕ) (f : Signal) → every m i f ≡ not (some m i (negation f))
unfolding some every negation
dual zero i f = refl
dual (suc m) i f =
    ap (λ (b : Bool). f i && b) (dual m (suc i) f)
    ∙ equal _ _ (at 2 (λ a b. a && not b == not (not a || b)) refl (f i) (some m (suc i) (negation f)))

module _ (n i : ℕ) where
  more : i < n → n - i ≡ suc (n - suc i)
  more h = omega arith

  none : n ≤ i → n - i ≡ 0
  none h = omega arith

module _ (n : ℕ) (a b : Signal) where
  pub until_unfolds : FromEnd n (λ a b x. b || (a && x)) false a b (until n a b)
  unfolding until some every
  until_unfolds =
      record {
        step =
            λ i h.
            rw (more n i h, none i i (omega arith))
            (ap₂ ◌||◌ (and-true (b i)) (some_cong (n - suc i) (suc i) _ _ (later i) ∙ some_and (a i) (n - suc i) (suc i) _));
        end = λ i h. rw (none n i h);
      }
    where
      later : (i j : ℕ) → suc i ≤ j → b j && every (j - i) i a ≡ a i && (b j && every (j - suc i) (suc i) a)
      later i j l =
          rw (more j i l)
          (equal _ _ (at 3 (λ x y z. x && (y && z) == y && (x && z)) refl (b j) (a i) (every (j - suc i) (suc i) a)))

  pub finally_unfolds : FromEnd n (λ a b x. a || x) false a b (finally n a)
  unfolding finally some
  finally_unfolds = record { step = λ i h. rw (more n i h); end = λ i h. rw (none n i h) }

-- G is the dual of F
abbrev duals : (F G : Bool → Bool → Bool → Bool) → Test 3
duals F G = λ a b x. not (F (not a) (not b) (not x)) == G a b x

-- the dual of a signal that comes from the end comes from the end
opposite :
    (F G : Bool → Bool → Bool → Bool) (e : Bool) → So (all 3 (duals F G)) → (n : ℕ) (a b s s' : Signal) →
    FromEnd n F e (negation a) (negation b) s → ((i : ℕ) → s' i ≡ not (s i)) → FromEnd n G (not e) a b s'
unfolding negation
opposite F G e t n a b s s' h d =
    record {
      step =
          λ i l.
          d i
          ∙ ap not (h.step i l)
          ∙ ap (λ (x : Bool). not (F (not (a i)) (not (b i)) x)) (sym (ap not (d (suc i)) ∙ not-not (s (suc i))))
          ∙ equal _ _ (at 3 (duals F G) t (a i) (b i) (s' (suc i)));
      end = λ i l. d i ∙ ap not (h.end i l);
    }

module _ (n : ℕ) (a b : Signal) where
  release_dual : (i : ℕ) → release n a b i ≡ not (until n (negation a) (negation b) i)
  unfolding release until negation
  release_dual i = dual (n - i) i _ ∙ ap not (some_cong (n - i) i _ _ neither)
    where
      not_every : (m : ℕ) → not (some m i a) ≡ every m i (negation a)
      not_every m = sym (dual m i (negation a) ∙ ap not (some_cong m i _ _ (λ j l. not-not (a j))))

      neither : (j : ℕ) → i ≤ j → not (b j || some (j - i) i a) ≡ not (b j) && every (j - i) i (negation a)
      neither j l =
          equal _ _ (at 2 (λ x y. not (x || y) == not x && not y) refl (b j) (some (j - i) i a))
          ∙ ap (λ (x : Bool). not (b j) && x) (not_every (j - i))

  pub release_unfolds : FromEnd n (λ a b x. b && (a || x)) true a b (release n a b)
  release_unfolds =
      opposite (λ a b x. b || (a && x)) _ false refl n a b _ _ (until_unfolds n (negation a) (negation b)) release_dual

  pub globally_unfolds : FromEnd n (λ a b x. a && x) true a b (globally n a)
  unfolding globally finally
  globally_unfolds =
      opposite (λ a b x. a || x) _ false refl n a b _ _ (finally_unfolds n (negation a) (negation b)) (λ i. dual (n - i) i a)

  pub weak_until_unfolds : FromEnd n (λ a b x. b || (a && x)) true a b (weak_until n a b)
  unfolding weak_until
  weak_until_unfolds =
      record {
        step =
            λ i l.
            rw ((until_unfolds n a b).step i l, globally_unfolds.step i l)
            (equal _ _
            (at 4 (λ x y u g. (y || (x && u)) || (x && g) == y || (x && (u || g))) refl (a i) (b i) (until n a b (suc i)) (globally n a (suc i))));
        end = λ i l. rw ((until_unfolds n a b).end i l, globally_unfolds.end i l);
      }
