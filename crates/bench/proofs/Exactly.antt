-- "The list names exactly the covered pairs of occurrence and run: each once, by occurrence, then by run".
-- Assumes nothing.
use mathlib.Core.Path.{◌≡◌, refl, sym, ◌∙◌, subst}
use mathlib.Core.Logic.{◌⊎◌, inl, inr, ⊎_elim}
use mathlib.Core.Bool.{Bool, true, false, cond, So, false≢true}
use mathlib.Core.List.{List, [], ◌∷◌}
use Prim.Native.Nat.{ℕ, zero, suc, ◌*◌, ◌≤◌, ◌<◌}
use native.Mathlib.Omega.{arith}
use native.Mathlib.Nat.{eq-or-lt_of_le, le_of_suc-le-suc, mul-le-mul_left}
use lib.ListN.{length}
use Rattle.figures.specs.Numbers.{below}
use Rattle.rows.specs.Rows.{Row}
use Rattle.rows.specs.Checks.{occurrences}
use Rattle.lines.specs.Texts.{in_order}
use Rattle.bench.specs.Coverage.{size, sum, row_of_occurrence, pairs_listed}
use Rattle.bench.proofs.Pairwise.{former, latter, Exact, once, exact_none, exact_one, exact_join}
use Rattle.bench.proofs.Sizes.{size_more, size_most, sum_most}

-- the pairs of one occurrence
module _ (o : ℕ) (f : ℕ → Bool) where
  abbrev OfOne : ℕ → ℕ → ℕ → Type 0
  OfOne m a b = (a ≡ o) × (b < m) × So (f b)

  of_one : (m : ℕ) → Exact (OfOne m) (in_order m (λ j. cond (f j) (o ∷ j ∷ []) [])) (size m f)
  unfolding in_order below
  of_one zero = exact_none (OfOne zero) (λ a b h. omega arith)
  of_one (suc m) =
      rw (size_more m f)
      (exact_join (of_one m) (last (f m) refl) (OfOne (suc m)) (λ a b h. (h.0, omega arith, h.2))
      (λ a b h. (h.0, omega arith, subst (λ (x : ℕ). So (f x)) (sym h.1) h.2))
      (λ a b h. ⊎_elim (λ e. inr (h.0, e, subst (λ (x : ℕ). So (f x)) e h.2)) (λ l. inl (h.0, l, h.2)) (eq-or-lt_of_le (le_of_suc-le-suc h.1)))
      (λ a b c d h g. inr (omega arith, omega arith)))
    where
      last : (t : Bool) → f m ≡ t → Exact (λ a b. (a ≡ o) × (b ≡ m) × So (f m)) (cond t (o ∷ m ∷ []) []) (cond t 1 0)
      last true e = exact_one _ o m (refl, refl, e) (λ c d h. (h.0, h.1))
      last false e = exact_none _ (λ a b h. false≢true (sym e ∙ h.2))

-- the pairs of all occurrences
module _ (f : ℕ → ℕ → Bool) (runs : ℕ) where
  abbrev OfAll : ℕ → ℕ → ℕ → Type 0
  OfAll m a b = (a < m) × (b < runs) × So (f a b)

  of_all : (m : ℕ) → Exact (OfAll m) (in_order m (λ o. in_order runs (λ j. cond (f o j) (o ∷ j ∷ []) []))) (sum m (λ o. size runs (f o)))
  unfolding in_order sum
  of_all zero = exact_none (OfAll zero) (λ a b h. omega arith)
  of_all (suc m) =
      exact_join (of_all m) (of_one m (f m) runs) (OfAll (suc m)) (λ a b h. (omega arith, h.1, h.2))
      (λ a b h. (omega arith, h.1, subst (λ (x : ℕ). So (f x b)) (sym h.0) h.2))
      (λ a b h. ⊎_elim (λ e. inr (e, h.1, subst (λ (x : ℕ). So (f x b)) e h.2)) (λ l. inl (l, h.1, h.2)) (eq-or-lt_of_le (le_of_suc-le-suc h.0)))
      (λ a b c d h g. inl (omega arith))

module _ (rows : List Row) (runs : ℕ) (covers : ℕ → ℕ → Bool) where
  -- the list's bytes, and the pair that stands k-th in them
  abbrev pub bytes : List ℕ
  bytes = pairs_listed rows runs covers (λ o j. o ∷ j ∷ [])

  abbrev pub occurrence : ℕ → ℕ
  occurrence = former bytes

  abbrev pub run : ℕ → ℕ
  run = latter bytes

  -- a covered pair of occurrence and run, and how many there are
  abbrev pub Pair : ℕ → ℕ → Type 0
  Pair o j = (o < length (occurrences rows)) × (j < runs) × So (covers (row_of_occurrence rows o) j)

  abbrev pub count : ℕ
  count = sum (length (occurrences rows)) (λ o. size runs (covers (row_of_occurrence rows o)))

  exactly : Exact Pair bytes count
  exactly = of_all (λ o. covers (row_of_occurrence rows o)) runs (length (occurrences rows))

  -- two bytes a pair
  pub list_even : length bytes ≡ 2 * count
  list_even = exactly.even

  -- what is listed is covered
  pub listed_covered : (k : ℕ) → k < count → Pair (occurrence k) (run k)
  listed_covered = exactly.each

  -- nothing covered is missing
  pub covered_listed : (o j : ℕ) → Pair o j → (k : ℕ) × ((k < count) × ((occurrence k ≡ o) × (run k ≡ j)))
  covered_listed = exactly.none_missing

  pub by_occurrence_then_run : (k l : ℕ) → k < l → l < count → (occurrence k < occurrence l) ⊎ ((occurrence k ≡ occurrence l) × (run k < run l))
  by_occurrence_then_run = exactly.ordered

  pub each_once : (k l : ℕ) → k < count → l < count → occurrence k ≡ occurrence l → run k ≡ run l → k ≡ l
  each_once = once exactly

  -- the room that the list needs at most
  pub list_fits : length bytes ≤ 2 * (length (occurrences rows) * runs)
  list_fits =
      rw list_even (mul-le-mul_left 2 (sum_most (length (occurrences rows)) runs (λ o _. size_most runs (covers (row_of_occurrence rows o)))))
