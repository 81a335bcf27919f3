-- Truth at the steps of a run: document 01, "Truth over a run", and Table 3 of document 002.
-- A signal says at each step whether something holds; n is the number of steps, i the step in hand.
-- Assumes nothing.
use Rattle.std.specs.Prelude.{Bool, true, false, not, ◌&&◌, ◌||◌, ℕ, zero, suc, ◌-◌, ltb, eqb}

abbrev pub Signal : Type 0
Signal = ℕ → Bool

-- f holds at some, at every one of the m steps from i on
unfoldable pub some : ℕ → ℕ → Signal → Bool
some zero i f = false
some (suc m) i f = f i || some m (suc i) f

unfoldable pub every : ℕ → ℕ → Signal → Bool
every zero i f = true
every (suc m) i f = f i && every m (suc i) f

unfoldable pub negation : Signal → Signal
negation a i = not (a i)

unfoldable pub both : Signal → Signal → Signal
both a b i = a i && b i

unfoldable pub either : Signal → Signal → Signal
either a b i = a i || b i

-- "strong next: i+1 < n and the child holds at i+1"
unfoldable pub strong_next : ℕ → Signal → Signal
strong_next n a i = ltb (suc i) n && a (suc i)

-- "Weak next: i+1 = n, or the child holds at i+1"
unfoldable pub weak_next : ℕ → Signal → Signal
weak_next n a i = eqb (suc i) n || a (suc i)

-- "at some j from i on, B holds, and A holds at every step from i up to but not including j"
unfoldable pub until : ℕ → Signal → Signal → Signal
until n a b i = some (n - i) i (λ j. b j && every (j - i) i a)

-- "at every j from i on, B holds at j or A holds at some k with i ≤ k < j"
unfoldable pub release : ℕ → Signal → Signal → Signal
release n a b i = every (n - i) i (λ j. b j || some (j - i) i a)

-- "finally, globally: some, every j from i on"
unfoldable pub finally : ℕ → Signal → Signal
finally n a i = some (n - i) i a

unfoldable pub globally : ℕ → Signal → Signal
globally n a i = every (n - i) i a

-- "A until B, or globally A"
unfoldable pub weak_until : ℕ → Signal → Signal → Signal
weak_until n a b i = until n a b i || globally n a i
