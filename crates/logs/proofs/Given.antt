-- A log's check: each refusal is given exactly when document 02 says, 17 at the lowest later step.
-- Assumes nothing.
use mathlib.Core.Path.{◌≡◌, refl}
use mathlib.Core.Logic.Iff
use mathlib.Core.Logic.{◌↔◌, ◌⊎◌}
use mathlib.Core.Bool.{Bool, true, false, cond, ◌&&◌, and-eq-true_iff}
use mathlib.Core.List.{List}
use Prim.Native.Nat.{ℕ, ◌%◌}
use native.Mathlib.Omega.{arith}
use borrow.Author.Tests.{eqb-true, eq-eqb}
use lib.Dec.{eqb}
use lib.ListN.{length}
use Rattle.figures.specs.declared.Place.{Place}
use Rattle.figures.specs.declared.Place.TheVariants as place
use Rattle.figures.specs.declared.Refusal.TheVariants.{RunLength}
use Rattle.figures.specs.Refusals.{Outcome, refusal, ◌then◌}
use Rattle.figures.specs.Refusals.Outcome.{refused, gives}
use Rattle.lengths.specs.Lengths.{run_of, most_steps}
use Rattle.limits.specs.Limits.{within}
use Rattle.laws.proofs.Given.{Beyond, either_iff, not_and, beyond_means, refused_when, within_means}
use Rattle.laws.proofs.Lowest.{Holds}
use Rattle.laws.proofs.Order.{Giving, Numbered, Never, instead, numbered_never, never_by, never_gives, never_then, skip_by, stop, stop_by, passes, passes_by, test_numbered, test_gives}
use Rattle.laws.proofs.Passed.{Within}
use Rattle.encoder.specs.Log.{count_bytes, steps_in}
use Rattle.logs.specs.LogRefusals.{log_of, steps_of}
use Rattle.logs.proofs.LaterSteps.{HalfTurnAt, reads, turns, turns_numbered, turns_pass, turns_refused}

-- 10, in plain logic
abbrev pub RightSteps : List ℕ → Type 0
RightSteps log = (length log % count_bytes ≡ 0) × Within 1 most_steps (steps_in log)

abbrev pub WrongSteps : List ℕ → Type 0
WrongSteps log = (length log % count_bytes ≡ 0 → ⊥) ⊎ Beyond 1 most_steps (steps_in log)

module _ (log : List ℕ) where
  abbrev right : Bool
  right = eqb (length log % count_bytes) 0 && within 1 most_steps (steps_in log)

  -- one test
  one_test : steps_of log ≡ cond right (gives (steps_in log)) (refusal RunLength)
  unfolding run_of
  one_test = go (eqb (length log % count_bytes) 0)
    where
      go :
          (b : Bool) →
          cond b (cond (within 1 most_steps (steps_in log)) (gives (steps_in log)) (refusal RunLength)) (refusal RunLength)
          ≡ cond (b && within 1 most_steps (steps_in log)) (gives (steps_in log)) (refusal RunLength)
      go true = refl
      go false = refl

  steps_numbered : Numbered (steps_of log) 10
  steps_numbered = rw one_test (test_numbered (steps_in log) RunLength right)

  steps_refused : (steps_of log ≡ refused 10 place.None) ↔ WrongSteps log
  steps_refused =
      Iff.trans (instead one_test)
      (Iff.trans (refused_when (steps_in log) RunLength right)
      (Iff.trans (not_and _ _)
      (either_iff (λ h e. h (eq-eqb _ _ e), λ h t. h (eqb-true _ _ t)) (beyond_means 1 most_steps (steps_in log)))))

  steps_give : (n : ℕ) → (steps_of log ≡ gives n) ↔ (RightSteps log × (steps_in log ≡ n))
  steps_give n =
      Iff.trans (instead one_test)
      (Iff.trans (test_gives (steps_in log) RunLength right n)
      (Iff.and (Iff.trans (and-eq-true_iff _ _) (Iff.and (eqb-true _ _, eq-eqb _ _) (within_means 1 most_steps (steps_in log)))) Iff.rfl))

  -- the two in order
  abbrev after : ℕ → Outcome ℕ
  after n = turns log then λ _. gives n

  in_order : log_of log ≡ (steps_of log then after)
  unfolding log_of
  in_order = refl

  never_after : (m : ℕ) → (17 ≡ m → ⊥) → (n : ℕ) → Never m (after n)
  never_after m d n = never_then (gives n) m (turns log) (turns_numbered log) d (never_gives m n)

  -- no other number
  pub never_else : (m : ℕ) → (10 ≡ m → ⊥) → (17 ≡ m → ⊥) → Never m (log_of log)
  never_else m d e =
      rw in_order (never_by after m (steps_of log) (numbered_never m (steps_of log) steps_numbered d) (never_after m e))

  pub given_10 : (log_of log ≡ refused 10 place.None) ↔ WrongSteps log
  given_10 =
      Iff.trans (instead in_order)
      (Iff.trans (stop_by after 10 (steps_of log) place.None (never_after 10 (λ e. omega arith))) steps_refused)

  pub given_17 :
      (i : ℕ) → (log_of log ≡ refused 17 (place.Step (record { 0 = i }))) ↔ (RightSteps log × HalfTurnAt log i)
  given_17 i =
      Iff.trans (instead in_order)
      (Iff.trans (skip_by after 17 (steps_of log) at (numbered_never 17 (steps_of log) steps_numbered (λ e. omega arith))) (there, back))
    where
      at : Place
      at = place.Step (record { 0 = i })

      there : Giving (steps_of log) (λ n. after n ≡ refused 17 at) → RightSteps log × HalfTurnAt log i
      there g =
          (((steps_give g.0).0 g.1.0).0, (turns_refused log i).0 ((stop (gives g.0) 17 (turns log) at (never_gives 17 g.0)).0 g.1.1))

      back : RightSteps log × HalfTurnAt log i → Giving (steps_of log) (λ n. after n ≡ refused 17 at)
      back h =
          let n = steps_in log in
          (n, ((steps_give n).1 (h.0, refl), (stop (gives n) 17 (turns log) at (never_gives 17 n)).1 ((turns_refused log i).1 h.1)))

  -- and the number of steps where nothing is refused
  pub given_steps : (n : ℕ) → (log_of log ≡ gives n) ↔ (RightSteps log × (Holds (reads log) 1 (steps_in log) × (steps_in log ≡ n)))
  given_steps n = Iff.trans (instead in_order) (Iff.trans (passes_by after (steps_of log) n) (there, back))
    where
      there : Giving (steps_of log) (λ a. after a ≡ gives n) → RightSteps log × (Holds (reads log) 1 (steps_in log) × (steps_in log ≡ n))
      there g =
          let s = (steps_give g.0).0 g.1.0 in
          let t = (passes (turns log) (gives g.0) n).0 g.1.1 in
          let e = t.1 in
          (s.0, ((turns_pass log).0 t.0.1, cc))

      back : RightSteps log × (Holds (reads log) 1 (steps_in log) × (steps_in log ≡ n)) → Giving (steps_of log) (λ a. after a ≡ gives n)
      back h = (n, ((steps_give n).1 (h.0, h.1.1), (passes (turns log) (gives n) n).1 ((tt, (turns_pass log).1 h.1.0), refl)))
