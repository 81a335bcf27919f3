-- Lists by their places: mapped, joined, read back, and equal by their elements.
-- Assumes nothing.
use mathlib.Core.Path.{◌≡◌, refl, sym, ◌∙◌, ap, ap₂}
use mathlib.Core.List.{List, [], ◌∷◌, ◌++◌, map, append-nil, append_assoc}
use Prim.Native.Nat.{ℕ, zero, suc, ◌+◌, ◌<◌}
use native.Mathlib.Omega.{arith}
use native.Mathlib.Nat.{add-zero, add-suc}
use lib.ListN.{length, get_or}
use lib.Seq.{ext_get_or}
use Rattle.figures.specs.Numbers.{tabulate}
use Rattle.laws.proofs.Tabulated.{length_tabulate, get_d_tabulate}

module _ {A : Type 0} where
  pub tabulate_same : (f g : ℕ → A) (m : ℕ) → ((k : ℕ) → k < m → f k ≡ g k) → tabulate m f ≡ tabulate m g
  unfolding tabulate
  tabulate_same f g zero same = refl
  tabulate_same f g (suc m) same =
      ap₂ (λ (l : List A) (x : A). l ++ (x ∷ [])) (tabulate_same f g m (λ k l. same k (omega arith))) (same m (omega arith))

  pub tabulate_add : (f : ℕ → A) (m n : ℕ) → tabulate (m + n) f ≡ tabulate m f ++ tabulate n (λ k. f (m + k))
  unfolding tabulate
  tabulate_add f m zero = ap (λ (k : ℕ). tabulate k f) (add-zero m) ∙ sym (append-nil (tabulate m f))
  tabulate_add f m (suc n) =
      ap (λ (k : ℕ). tabulate k f) (add-suc m n)
      ∙ ap (λ (l : List A). l ++ (f (m + n) ∷ [])) (tabulate_add f m n)
      ∙ append_assoc (tabulate m f) (tabulate n (λ k. f (m + k))) (f (m + n) ∷ [])

  -- a list is its elements
  pub tabulate_is : (f : ℕ → A) (xs : List A) (d : A) → ((k : ℕ) → k < length xs → f k ≡ get_or xs k d) → tabulate (length xs) f ≡ xs
  tabulate_is f xs d same =
      let size = length_tabulate f (length xs) in
      ext_get_or d (tabulate (length xs) f) xs size
      (λ k l. get_d_tabulate f (length xs) k d (omega arith) ∙ same k (omega arith))

module _ {A B : Type 0} (g : A → B) where
  map_append : (s t : List A) → map g (s ++ t) ≡ map g s ++ map g t
  map_append [] t = refl
  map_append (x ∷ s) t = ap (λ (l : List B). g x ∷ l) (map_append s t)

  pub map_tabulate : (f : ℕ → A) (m : ℕ) → map g (tabulate m f) ≡ tabulate m (λ k. g (f k))
  unfolding tabulate
  map_tabulate f zero = refl
  map_tabulate f (suc m) = map_append (tabulate m f) (f m ∷ []) ∙ ap (λ (l : List B). l ++ (g (f m) ∷ [])) (map_tabulate f m)
