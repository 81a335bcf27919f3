-- The numbers below a count that have a property: exactly those, ascending; and the loops that count or find them.
-- Assumes nothing.
use mathlib.Core.Path.{◌≡◌, refl, sym, ◌∙◌, ap}
use mathlib.Core.Bool.{Bool, true, false, cond, So}
use mathlib.Core.List.{List, [], ◌∷◌, ◌++◌, append_assoc, append-nil}
use Rattle.std.specs.Prelude.{slice_get, None, Some}
use Rattle.std.specs.List.{count_by, filter}
use Rattle.std.proofs.lemmas.List.Sums.{count_by_more_yes, count_by_more_no, length-filter}
use Rattle.std.proofs.Math.Seq.{take-length}
use Prim.Native.Nat.{ℕ, zero, suc, ◌+◌, ◌≤◌, ◌<◌}
use native.Mathlib.Omega.{arith}
use native.Mathlib.Numerals.{add-one}
use Rattle.std.proofs.Math.Nat.{add-zero}
use native.Mathlib.Decide.{ℕ_discrete}
use lib.ListN.{length, length-append, get_or, take}
use Rattle.figures.specs.Numbers.{below}

module _ (f : ℕ → Bool) where
  -- one number more
  pub below_with : (m : ℕ) → So (f m) → below (m + 1) f ≡ below m f ++ (m ∷ [])
  unfolding below
  below_with m h = rw (add-one, h)

  pub length_more : (m : ℕ) → length (below (m + 1) f) ≡ length (below m f) + cond (f m) 1 0
  unfolding below
  length_more m = rw add-one (length-append (below m f) (cond (f m) (m ∷ []) []) ∙ ap (λ (x : ℕ). length (below m f) + x) (one (f m)))
    where
      one : (b : Bool) → length (cond b (m ∷ []) []) ≡ cond b 1 0
      one true = refl
      one false = refl

  -- a longer count only adds at the end
  pub below_front : (r m : ℕ) → r ≤ m → (rest : List ℕ) × (below m f ≡ below r f ++ rest)
  unfolding below
  below_front r zero l = let e : r ≡ 0 = omega arith in ([], ap (λ (x : ℕ). below x f) (sym e) ∙ sym (append-nil (below r f)))
  below_front r (suc m) l = go (ℕ_discrete r (suc m)) (below_front r m)
    where
      go :
          Dec (r ≡ suc m) → (r ≤ m → (rest : List ℕ) × (below m f ≡ below r f ++ rest)) →
          (rest : List ℕ) × (below (suc m) f ≡ below r f ++ rest)
      go (yes e) ih = ([], ap (λ (x : ℕ). below x f) (sym e) ∙ sym (append-nil (below r f)))
      go (no e) ih =
          let h = ih (omega arith) in
          (_, ap (λ (x : List ℕ). x ++ cond (f m) (m ∷ []) []) h.1 ∙ append_assoc (below r f) h.0 _)

  element_seam : (xs : List ℕ) (y : ℕ) (ys : List ℕ) → slice_get (xs ++ y ∷ ys) (length xs) ≡ Some y
  element_seam [] y ys = refl
  element_seam (x ∷ xs) y ys = element_seam xs y ys

  element_past : (xs : List ℕ) (k : ℕ) → length xs ≤ k → slice_get xs k ≡ None
  element_past [] k l = refl
  element_past (x ∷ xs) zero l = absurd (omega arith)
  element_past (x ∷ xs) (suc k) l = element_past xs k (omega arith)

  -- the number found after as many others as were wanted; and none where there are too few
  pub found_at : (m r k : ℕ) → r < m → So (f r) → length (below r f) ≡ k → Some r ≡ slice_get (below m f) k
  found_at m r k l h e =
      let rest = below_front (r + 1) m (omega arith) in
      sym
      (rw (rest.1, below_with r h, append_assoc (below r f) (r ∷ []) rest.0, ← e)
      (element_seam (below r f) r rest.0))

  pub found_none : (m k : ℕ) → length (below m f) ≤ k → None ≡ slice_get (below m f) k
  found_none m k l = sym (element_past (below m f) k l)

-- as many of a list pass a test as there are places where it passes
module _ {X : Type 0} (p : X → Bool) (xs : List X) (d : X) where
  place_counted :
      (m : ℕ) (b : Bool) → m < length xs → p (get_or xs m d) ≡ b →
      count_by p (take m xs) ≡ length (below m (λ k. p (get_or xs k d))) →
      count_by p (take (m + 1) xs) ≡ length (below (m + 1) (λ k. p (get_or xs k d)))
  place_counted m true l h e =
      count_by_more_yes p xs m d l h
      ∙ ap (λ (x : ℕ). x + 1) e
      ∙ sym (rw h at (length_more (λ k. p (get_or xs k d)) m))
  place_counted m false l h e =
      count_by_more_no p xs m d l h
      ∙ e
      ∙ sym (rw (h, add-zero) at (length_more (λ k. p (get_or xs k d)) m))

  front_counted : (m : ℕ) → m ≤ length xs → count_by p (take m xs) ≡ length (below m (λ k. p (get_or xs k d)))
  unfolding below
  front_counted zero l = refl
  front_counted (suc m) l =
      rw add-one at (place_counted m (p (get_or xs m d)) (omega arith) refl (front_counted m (omega arith)))

  pub filter_counted : length (filter p xs) ≡ length (below (length xs) (λ k. p (get_or xs k d)))
  filter_counted =
      length-filter p xs
      ∙ ap (λ (ys : List X). count_by p ys) (sym (take-length xs))
      ∙ front_counted (length xs) (omega arith)
