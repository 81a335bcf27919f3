-- The operation `take_in`: each refusal is given exactly when document 02 says, and when a run is taken in.
-- Assumes nothing.
use mathlib.Core.Path.{◌≡◌, refl, sym, subst}
use mathlib.Core.Logic.Iff
use mathlib.Core.Logic.{◌↔◌}
use mathlib.Core.List.{List}
use Prim.Native.Nat.{ℕ, ◌≤◌, ◌<◌}
use native.Mathlib.Omega.{arith}
use borrow.Author.Tests.{leb-true, le-leb}
use lib.Dec.{leb}
use lib.IntN.{ℤ}
use lib.ListN.{length}
use Rattle.figures.specs.declared.Place.{Place}
use Rattle.figures.specs.declared.Place.TheVariants as place
use Rattle.figures.specs.declared.Refusal.TheVariants.{ShortOutput}
use Rattle.limits.specs.declared.Suite.{Suite}
use Rattle.figures.specs.Refusals.{Outcome, ◌then◌}
use Rattle.figures.specs.Refusals.Outcome.{refused, gives}
use Rattle.limits.specs.Limits.{suite_of, most_conditions}
use Rattle.laws.proofs.Given.{Beyond, over_means, refused_when}
use Rattle.laws.proofs.Lowest.{Holds}
use Rattle.laws.proofs.Order.{Giving, Never, instead, numbered_never, never_by, passes, passes_by, skip, skip_by, stop, stop_by, test_gives, test_numbered}
use Rattle.laws.proofs.Passed.{Within, lone_passes, lone_refused, suite_numbered}
use Rattle.encoder.specs.Log.{steps_in}
use Rattle.logs.specs.LogRefusals.{log_of}
use Rattle.logs.proofs.Given.{RightSteps, WrongSteps, never_else, given_10 as log_10, given_17 as log_17, given_steps as log_steps}
use Rattle.logs.proofs.LaterSteps.{HalfTurnAt, reads}
use Rattle.recorded.specs.Recorded.{room_for, taken_of}

module _ (log : List ℕ) (limits : List ℤ) (room : ℕ) where
  -- 3 passed; 10 and 17 passed
  abbrev pub LimitsWithin : Type 0
  LimitsWithin = Within 1 most_conditions (length limits)

  abbrev pub LogTaken : Type 0
  LogTaken = RightSteps log × Holds (reads log) 1 (steps_in log)

  abbrev answer : Outcome ℕ
  answer = taken_of log limits room

  abbrev suite : Outcome Suite
  suite = suite_of (length limits) 1 1

  abbrev last : ℕ → Outcome ℕ
  last n = room_for n room

  abbrev after : Outcome ℕ
  after = log_of log then last

  in_order : answer ≡ (suite then λ _. after)
  unfolding taken_of
  in_order = refl

  never_last : (m : ℕ) → (14 ≡ m → ⊥) → (n : ℕ) → Never m (last n)
  never_last m d n = numbered_never m (last n) (test_numbered n ShortOutput (leb n room)) d

  -- the log gives its number of steps
  giving : (P : ℕ → Type 0) → Giving (log_of log) P ↔ (LogTaken × P (steps_in log))
  giving P = (
    λ g. let s = (log_steps log g.0).0 g.1.0 in ((s.0, s.1.0), subst P (sym s.1.1) g.1.1),
    λ h. (steps_in log, ((log_steps log (steps_in log)).1 (h.0.0, (h.0.1, refl)), h.1)),
  )

  past_limits : (m : ℕ) (p : Place) → (3 ≡ m → ⊥) → (answer ≡ refused m p) ↔ (LimitsWithin × (after ≡ refused m p))
  past_limits m p d =
      Iff.trans (instead in_order)
      (Iff.trans (skip after m suite p (suite_numbered (length limits) 1 1) d) (Iff.and (lone_passes (length limits)) Iff.rfl))

  pub given_3 : (answer ≡ refused 3 place.None) ↔ Beyond 1 most_conditions (length limits)
  given_3 =
      Iff.trans (instead in_order)
      (Iff.trans
      (stop after 3 suite place.None
      (never_by last 3 (log_of log) (never_else log 3 (λ e. omega arith) (λ e. omega arith)) (never_last 3 (λ e. omega arith))))
      (lone_refused (length limits)))

  pub given_10 : (answer ≡ refused 10 place.None) ↔ (LimitsWithin × WrongSteps log)
  given_10 =
      Iff.trans (past_limits 10 place.None (λ e. omega arith))
      (Iff.and Iff.rfl (Iff.trans (stop_by last 10 (log_of log) place.None (never_last 10 (λ e. omega arith))) (log_10 log)))

  pub given_17 : (i : ℕ) → (answer ≡ refused 17 (place.Step (record { 0 = i }))) ↔ (LimitsWithin × (RightSteps log × HalfTurnAt log i))
  given_17 i =
      Iff.trans (past_limits 17 (place.Step (record { 0 = i })) (λ e. omega arith))
      (Iff.and Iff.rfl
      (Iff.trans (stop_by last 17 (log_of log) (place.Step (record { 0 = i })) (never_last 17 (λ e. omega arith))) (log_17 log i)))

  pub given_14 : (answer ≡ refused 14 place.None) ↔ (LimitsWithin × (LogTaken × (room < steps_in log)))
  given_14 =
      Iff.trans (past_limits 14 place.None (λ e. omega arith))
      (Iff.and Iff.rfl
      (Iff.trans (skip_by last 14 (log_of log) place.None (never_else log 14 (λ e. omega arith) (λ e. omega arith)))
      (Iff.trans (giving (λ n. last n ≡ refused 14 place.None))
      (Iff.and Iff.rfl
      (Iff.trans (refused_when (steps_in log) ShortOutput (leb (steps_in log) room)) (over_means (steps_in log) room))))))

  pub given_steps : (n : ℕ) → (answer ≡ gives n) ↔ (LimitsWithin × (LogTaken × ((steps_in log ≤ room) × (steps_in log ≡ n))))
  given_steps n =
      Iff.trans (instead in_order)
      (Iff.trans (passes suite after n)
      (Iff.and (lone_passes (length limits))
      (Iff.trans (passes_by last (log_of log) n)
      (Iff.trans (giving (λ a. last a ≡ gives n))
      (Iff.and Iff.rfl
      (Iff.trans (test_gives (steps_in log) ShortOutput (leb (steps_in log) room) n) (Iff.and (leb-true _ _, le-leb _ _) Iff.rfl)))))))
