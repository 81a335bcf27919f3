-- A list by its places: its length, its elements, its front.
-- Assumes nothing.
use mathlib.Core.Path.{◌≡◌, refl, sym, ◌∙◌, ap}
use mathlib.Core.List.{[], ◌∷◌, ◌++◌}
use Prim.Native.Nat.{ℕ, zero, suc, ◌≤◌, ◌<◌}
use native.Mathlib.Omega.{arith}
use native.Mathlib.Decide.{ℕ_discrete}
use lib.ListN.{length, get_or, take, length-append, get_or-append}
use lib.Seq.{take_all, take-append-le, get_or_at}
use Rattle.figures.specs.Numbers.{tabulate}

module _ {A : Type 0} (f : ℕ → A) where
  pub length_tabulate : (m : ℕ) → length (tabulate m f) ≡ m
  unfolding tabulate
  length_tabulate zero = refl
  length_tabulate (suc m) = let h = length_tabulate m in omega (arith, length-append (tabulate m f) (f m ∷ []))

  pub get_d_tabulate : (m k : ℕ) (d : A) → k < m → get_or (tabulate m f) k d ≡ f k
  unfolding tabulate
  get_d_tabulate zero k d l = absurd (omega arith)
  get_d_tabulate (suc m) k d l = go (ℕ_discrete k m) (get_d_tabulate m k d)
    where
      go : Dec (k ≡ m) → (k < m → get_or (tabulate m f) k d ≡ f k) → get_or (tabulate m f ++ (f m ∷ [])) k d ≡ f k
      go (yes e) ih = get_or_at (tabulate m f) (f m) [] d k (length_tabulate m ∙ sym e) ∙ ap f (sym e)
      go (no e) ih =
          get_or-append (tabulate m f) (f m ∷ []) d k (omega (arith, length_tabulate m)) ∙ ih (omega arith)

  pub take_tabulate : (m k : ℕ) → k ≤ m → take k (tabulate m f) ≡ tabulate k f
  unfolding tabulate
  take_tabulate zero k l = go (ℕ_discrete k 0)
    where
      go : Dec (k ≡ 0) → take k [] ≡ tabulate k f
      go (yes e) = rw e
      go (no e) = absurd (omega arith)
  take_tabulate (suc m) k l = go (ℕ_discrete k (suc m)) (take_tabulate m k)
    where
      go : Dec (k ≡ suc m) → (k ≤ m → take k (tabulate m f) ≡ tabulate k f) → take k (tabulate m f ++ (f m ∷ [])) ≡ tabulate k f
      go (yes e) ih =
          take_all k (tabulate (suc m) f) (omega (arith, length_tabulate (suc m))) ∙ ap (λ (x : ℕ). tabulate x f) (sym e)
      go (no e) ih =
          take-append-le k (tabulate m f) (f m ∷ []) (omega (arith, length_tabulate m)) ∙ ih (omega arith)
