-- The numbers below a count that have a property: exactly those, and ascending.
-- Assumes nothing.
use mathlib.Core.Path.{◌≡◌, refl, sym, ◌∙◌, subst}
use mathlib.Core.Logic.{⊎_elim}
use mathlib.Core.Bool.{Bool, true, false, cond, So, false≢true}
use mathlib.Core.List.Memᴰ
use mathlib.Core.List.{List, [], ◌∷◌, ◌++◌, append-nil, Memᴰ}
use Prim.Native.Nat.{ℕ, zero, suc, ◌<◌}
use native.Mathlib.Omega.{arith}
use native.Mathlib.Decide.{ℕ_discrete, dec_lt}
use lib.ListN.{length, get_or, length-append, get_or-append}
use lib.Seq.{get_or_at}
use Rattle.figures.specs.Numbers.{below}

module _ (f : ℕ → Bool) where
  -- one number more: by whether it has the property
  one_more :
      (P : List ℕ → Type 0) (m : ℕ) → (So (f m) → P (below m f ++ (m ∷ []))) → (f m ≡ false → P (below m f)) → P (below (suc m) f)
  unfolding below
  one_more P m with_it without = go (f m) refl
    where
      go : (b : Bool) → f m ≡ b → P (below m f ++ cond b (m ∷ []) [])
      go true e = with_it e
      go false e = subst P (sym (append-nil (below m f))) (without e)

  -- each has the property and is below the count
  pub below_has : (m k : ℕ) → Memᴰ k (below m f) → (k < m) × So (f k)
  unfolding below
  below_has zero k = λ i. absurd (Memᴰ.not-nil i)
  below_has (suc m) k = one_more (λ l. Memᴰ k l → (k < suc m) × So (f k)) m (last (below_has m k)) (λ _. earlier (below_has m k))
    where
      earlier : (Memᴰ k (below m f) → (k < m) × So (f k)) → Memᴰ k (below m f) → (k < suc m) × So (f k)
      earlier ih i = let h = ih i in let l = h.0 in (omega arith, h.1)

      last : (Memᴰ k (below m f) → (k < m) × So (f k)) → So (f m) → Memᴰ k (below m f ++ (m ∷ [])) → (k < suc m) × So (f k)
      last ih t i =
          ⊎_elim (earlier ih)
          (λ s. let e = Memᴰ.eq_of_singleton s in (omega arith, subst (λ (x : ℕ). So (f x)) (sym e) t))
          (Memᴰ.append_cases (below m f) i)

  -- and there is no other
  pub has_below : (m k : ℕ) → k < m → So (f k) → Memᴰ k (below m f)
  has_below zero k l t = absurd (omega arith)
  has_below (suc m) k l t = go (ℕ_discrete k m) (λ h. has_below m k h t)
    where
      go : Dec (k ≡ m) → (k < m → Memᴰ k (below m f)) → Memᴰ k (below (suc m) f)
      go (yes e) ih = one_more (Memᴰ k) m (λ _. Memᴰ.append_right (below m f) (Memᴰ.head e)) (λ n. absurd (false≢true (sym n ∙ subst (λ (x : ℕ). So (f x)) e t)))
      go (no e) ih = one_more (Memᴰ k) m (λ _. Memᴰ.append_left (m ∷ []) (ih (omega arith))) (λ _. ih (omega arith))

  -- each stands before the larger ones
  element_less : (m i : ℕ) → i < length (below m f) → get_or (below m f) i 0 < m
  unfolding below
  element_less zero i = λ l. absurd (omega arith)
  element_less (suc m) i = one_more (λ xs. i < length xs → get_or xs i 0 < suc m) m (last (element_less m i)) (λ _ l. let h = element_less m i l in omega arith)
    where
      last : (i < length (below m f) → get_or (below m f) i 0 < m) → So (f m) → i < length (below m f ++ (m ∷ [])) → get_or (below m f ++ (m ∷ [])) i 0 < suc m
      last ih t l = go (dec_lt i (length (below m f)))
        where
          go : Dec (i < length (below m f)) → get_or (below m f ++ (m ∷ [])) i 0 < suc m
          go (yes h) = let e = ih h in omega (arith, get_or-append (below m f) (m ∷ []) 0 i h)
          go (no h) =
              omega (arith, get_or_at (below m f) m [] 0 i (omega (arith, length-append (below m f) (m ∷ []))))

  pub ascending : (m i j : ℕ) → i < j → j < length (below m f) → get_or (below m f) i 0 < get_or (below m f) j 0
  unfolding below
  ascending zero i j h = λ l. absurd (omega arith)
  ascending (suc m) i j h = one_more (λ xs. j < length xs → get_or xs i 0 < get_or xs j 0) m (last (ascending m i j h)) (λ _. ascending m i j h)
    where
      last :
          (j < length (below m f) → get_or (below m f) i 0 < get_or (below m f) j 0) → So (f m) → j < length (below m f ++ (m ∷ [])) → get_or (below m f ++ (m ∷ [])) i 0 < get_or (below m f ++ (m ∷ [])) j 0
      last ih t l = go (dec_lt j (length (below m f)))
        where
          here : (k : ℕ) → k < length (below m f) → get_or (below m f ++ (m ∷ [])) k 0 ≡ get_or (below m f) k 0
          here k g = get_or-append (below m f) (m ∷ []) 0 k g

          go : Dec (j < length (below m f)) → get_or (below m f ++ (m ∷ [])) i 0 < get_or (below m f ++ (m ∷ [])) j 0
          go (yes g) = let e = ih g in omega (arith, here i (omega arith), here j g)
          go (no g) =
              let n = length-append (below m f) (m ∷ []) in
              let e = element_less m i (omega arith) in
              omega (arith, here i (omega arith), get_or_at (below m f) m [] 0 j (omega arith))
