-- Numbers below a count: a list by its places, the numbers that have a property, and the lowest that lacks it.
-- Assumes nothing.
use Rattle.std.specs.Prelude.{Bool, cond, List, [], ◌∷◌, ◌++◌, ℕ, zero, suc, ◌-◌, length, take, replicate}
use Rattle.std.specs.Prelude.{Option, None, Some}
use Rattle.figures.specs.declared.Refusal.{Refusal}
use Rattle.figures.specs.Refusals.{Outcome, refusal}
use Rattle.figures.specs.Refusals.Outcome.{gives}

-- the list of m things whose k-th is f k
unfoldable pub tabulate : {A : Type 0} → ℕ → (ℕ → A) → List A
tabulate zero f = []
tabulate (suc m) f = tabulate m f ++ (f m ∷ [])

-- an array of so many things that starts with these, the rest d
abbrev pub padded_by : {A : Type 0} → A → ℕ → List A → List A
padded_by d many xs = take many xs ++ replicate (many - length xs) d

-- the numbers below m at which f holds, ascending
unfoldable pub below : ℕ → (ℕ → Bool) → List ℕ
below zero f = []
below (suc m) f = below m f ++ cond (f m) (m ∷ []) []

-- "Where one number could have several places, the lowest counts": of the m numbers from i on, the lowest at which f fails
unfoldable pub lowest : ℕ → ℕ → (ℕ → Bool) → Option ℕ
lowest zero i f = None
lowest (suc m) i f = cond (f i) (lowest m (suc i) f) (Some i)

-- a check that refuses at the lowest place, and passes where there is none
abbrev pub refused_at : (ℕ → Refusal) → Option ℕ → Outcome (Unit {0})
refused_at at None = gives tt
refused_at at (Some k) = refusal (at k)
