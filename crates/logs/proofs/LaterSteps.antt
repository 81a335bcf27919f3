-- 17 at the later step: what the search for half a turn says of the steps after step 0, in plain logic.
-- Assumes nothing.
use mathlib.Core.Path.{◌≡◌, refl, sym, ap, subst}
use mathlib.Core.Logic.{◌↔◌}
use mathlib.Core.Bool.{Bool, true, not}
use mathlib.Core.List.{List}
use Rattle.std.specs.Prelude.{Option, None, Some}
use Prim.Native.Nat.{ℕ, zero, suc, ◌-◌}
use native.Mathlib.Omega.{arith}
use lib.Dec.{eqb}
use Rattle.figures.specs.declared.Place.{Place}
use Rattle.figures.specs.declared.Place.TheVariants as place
use Rattle.figures.specs.Refusals.{Outcome, printed_place}
use Rattle.figures.specs.Refusals.Outcome.{refused, gives}
use Rattle.laws.proofs.Given.{not_both}
use Rattle.laws.proofs.Lowest.{Holds, Lowest, lowest_is, lowest_some, lowest_none, lowest_holds}
use Rattle.laws.proofs.Order.{Numbered, same_number}
use Rattle.encoder.specs.Log.{difference_in, half_turn, lowest_half_turn, steps_in}
use Rattle.logs.specs.LogRefusals.{turns_of}

-- whether the difference to a step from the one before can be read; step 0 has none
abbrev pub reads : List ℕ → ℕ → Bool
reads log zero = true
reads log (suc k) = not (eqb (difference_in log k) half_turn)

module _ (log : List ℕ) where
  abbrev pub turns : Outcome (Unit {0})
  turns = turns_of (lowest_half_turn log)

  pub turns_numbered : Numbered turns 17
  turns_numbered m p = go (lowest_half_turn log)
    where
      go : (l : Option ℕ) → turns_of l ≡ refused m p → m ≡ 17
      go None e = not_both e refl
      go (Some k) e = sym (same_number e)

  -- the lowest step after step 0 whose difference is half a turn
  abbrev pub HalfTurnAt : ℕ → Type 0
  HalfTurnAt i = Lowest (reads log) (steps_in log - 1) 1 i

  -- the same from the step before
  abbrev early : ℕ → Bool
  early k = reads log (suc k)

  pub turns_pass : (turns ≡ gives tt) ↔ Holds (reads log) 1 (steps_in log)
  turns_pass = (
    λ e. there (go (lowest_half_turn log) refl e),
    λ h. ap turns_of (lowest_none (steps_in log - 1) 0 early (λ k l g. h (suc k) (omega arith) (omega arith))),
  )
    where
      go : (l : Option ℕ) → lowest_half_turn log ≡ l → turns_of l ≡ gives tt → lowest_half_turn log ≡ None
      go None q e = q
      go (Some k) q e = not_both refl e

      there : lowest_half_turn log ≡ None → Holds (reads log) 1 (steps_in log)
      there e zero l g = refl
      there e (suc k) l g = lowest_holds (steps_in log - 1) 0 early e k (omega arith) (omega arith)

  pub turns_refused : (i : ℕ) → (turns ≡ refused 17 (place.Step (record { 0 = i }))) ↔ HalfTurnAt i
  turns_refused i = (go (lowest_half_turn log) refl, back i)
    where
      later : (k : ℕ) → Lowest early (steps_in log - 1) 0 k → HalfTurnAt (suc k)
      later k h =
          let a = h.from in
          let b = h.inside in
          record { from = omega arith; inside = omega arith; fails = h.fails; below = below }
        where
          below : Holds (reads log) 1 (suc k)
          below zero l g = refl
          below (suc j) l g = h.below j (omega arith) (omega arith)

      same_place : {m n : ℕ} {p q : Place} → ◌≡◌ {A = Outcome (Unit {0})} (refused m p) (refused n q) → p ≡ q
      same_place e = cc

      go : (l : Option ℕ) → lowest_half_turn log ≡ l → turns_of l ≡ refused 17 (place.Step (record { 0 = i })) → HalfTurnAt i
      go None q e = not_both e refl
      go (Some k) q e = subst HalfTurnAt (ap printed_place (same_place e)) (later k (lowest_is (steps_in log - 1) 0 early k q))

      back : (j : ℕ) → HalfTurnAt j → turns ≡ refused 17 (place.Step (record { 0 = j }))
      back zero h = absurd (let a = h.from in omega arith)
      back (suc k) h =
          let a = h.from in
          let b = h.inside in
          ap turns_of
          (lowest_some (steps_in log - 1) 0 early k
          (record { from = omega arith; inside = omega arith; fails = h.fails; below = λ j l g. h.below (suc j) (omega arith) (omega arith) }))
