-- What a chain chooses of the numbers below a count: those at which the property holds, ascending; so their number is the size of that set.
-- Assumes nothing.
use mathlib.Core.Path.{◌≡◌, refl, ◌∙◌, ap}
use mathlib.Core.Bool.{Bool, cond}
use mathlib.Core.List.{List, [], ◌∷◌, ◌++◌, map-id}
use Prim.Native.Nat.{ℕ, zero, suc, ◌+◌, ◌≤◌}
use native.Mathlib.Nat.{zero-add}
use native.Mathlib.Numerals.{add-one}
use native.Mathlib.Omega.{arith}
use lib.ListN.{length}
use Rattle.std.specs.List.{filter, range_with_len}
use Rattle.std.proofs.lemmas.List.FromFn.{filter_of_map_range_with_len_more}
use Rattle.figures.specs.Numbers.{below}
use Rattle.bench.specs.Coverage.{size}
use Rattle.bench.proofs.Sizes.{size_most}

module _ (f : ℕ → Bool) where
  -- one number more
  chosen_more : (m : ℕ) → filter f (range_with_len 0 (m + 1)) ≡ filter f (range_with_len 0 m) ++ cond (f m) (m ∷ []) []
  chosen_more m =
      let all = filter_of_map_range_with_len_more f (λ (k : ℕ). k) 0 m m (zero-add m) in
      rw (map-id (range_with_len 0 m), map-id (range_with_len 0 (m + 1))) at all

  pub chosen : (m : ℕ) → filter f (range_with_len 0 m) ≡ below m f
  unfolding below
  chosen zero = refl
  chosen (suc m) =
      rw add-one at (chosen_more m ∙ ap (λ (l : List ℕ). l ++ cond (f m) (m ∷ []) []) (chosen m))

  -- the count of those chosen of `many` numbers, which are m and at most so many
  pub counted :
      {r many m most : ℕ} → r ≡ length (filter f (range_with_len 0 many)) → (many ≡ m) × (many ≤ most) → (r ≡ size m f) × (r ≤ most)
  counted {many = many} {m} e is =
      let all = e ∙ ap length (chosen many) ∙ ap (λ (k : ℕ). size k f) is.0 in
      (all, omega (arith, all, size_most m f, is))
