-- Raising a limit never makes its condition hold at more steps.
-- Assumes nothing.
use mathlib.Core.Path.{◌≡◌, refl, subst}
use mathlib.Core.Bool.{Bool, true, false, cond, So, false≢true}
use mathlib.Core.List.{List}
use Prim.Native.Nat.{ℕ, zero, suc, ◌≤◌}
use native.Mathlib.Omega.{arith}
use native.Mathlib.Numerals.{add-one}
use lib.IntN.{ℤ}
use lib.ListN.{length}
use lib.Signed.{le_z}
use Rattle.figures.specs.Numbers.{below}
use Rattle.laws.proofs.Below.{length_more}
use Rattle.encoder.specs.Log.{steps_in, travel}
use Rattle.encoder.proofs.Sides.{le_sides, sides_le}
use Rattle.log_words.specs.StepWord.{holds_at}

-- the steps of a log at which a condition with this limit holds
abbrev pub steps_held : ℤ → List ℕ → List ℕ
steps_held limit log = below (steps_in log) (λ i. holds_at limit (travel log i))

nothing : (f : ℕ → Bool) → length (below 0 f) ≡ 0
unfolding below
nothing f = refl

-- numbers that have one property have the other, so there are no fewer of those
fewer : (f g : ℕ → Bool) → ((k : ℕ) → So (f k) → So (g k)) → (m : ℕ) → length (below m f) ≤ length (below m g)
fewer f g to zero = omega (arith, nothing f)
fewer f g to (suc m) =
    let h = fewer f g to m in
    let one = at_most (f m) (g m) (to m) in
    subst (λ (k : ℕ). length (below k f) ≤ length (below k g)) (add-one m) (omega (arith, length_more f m, length_more g m))
  where
    at_most : (a b : Bool) → (So a → So b) → cond a 1 0 ≤ cond b 1 0
    at_most true true t = omega arith
    at_most true false t = absurd (false≢true (t refl))
    at_most false b t = omega arith

module _ (lower higher : ℤ) (raised : So (le_z lower higher)) where
  pub holds_below : (gone : ℤ) → So (holds_at higher gone) → So (holds_at lower gone)
  holds_below gone h =
      let a = le_sides lower higher raised in
      let b = le_sides higher gone h in
      sides_le lower gone (omega arith)

  pub no_more_steps : (log : List ℕ) → length (steps_held higher log) ≤ length (steps_held lower log)
  no_more_steps log =
      fewer (λ i. holds_at higher (travel log i)) (λ i. holds_at lower (travel log i)) (λ k. holds_below (travel log k)) (steps_in log)
