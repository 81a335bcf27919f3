-- The row that an occurrence's number leads to: it is the list's, it is a condition row, and 12 is given exactly where there is none.
-- Assumes nothing.
use mathlib.Core.Path.{◌≡◌, refl, sym, subst}
use mathlib.Core.Logic.{◌↔◌}
use mathlib.Core.Bool.{So}
use mathlib.Core.List.{List, [], ◌∷◌, Memᴰ}
use Rattle.std.specs.Prelude.{slice_get, Option, None, Some}
use Prim.Native.Nat.{ℕ, zero, suc, ◌≤◌, ◌<◌}
use native.Mathlib.Omega.{arith}
use native.Mathlib.Decide.{dec_lt}
use lib.ListN.{length, get_or}
use Rattle.figures.specs.declared.Place.TheVariants as place
use Rattle.figures.specs.declared.Refusal.TheVariants.{NoSuch}
use Rattle.figures.specs.Refusals.{refusal}
use Rattle.figures.specs.Refusals.Outcome.{refused, gives}
use Rattle.laws.proofs.Ascending.{below_has}
use Rattle.laws.proofs.Given.{not_both}
use Rattle.laws.proofs.Order.{Numbered, Giving, same_number}
use Rattle.rows.specs.Rows.{Row}
use Rattle.rows.specs.Checks.{condition_at, occurrences, occurrence_at, occurrence_of}

-- what is found at a place is in the list, and is what the list has there
found : (l : List ℕ) (k : ℕ) {p : ℕ} → occurrence_at (slice_get l k) ≡ gives p → Memᴰ p l × (p ≡ get_or l k 0)
found [] k e = not_both refl e
found (x ∷ l) zero {p} e = let q : p ≡ x = cc in (Memᴰ.head q, q)
found (x ∷ l) (suc k) e = let h = found l k e in (Memᴰ.tail h.0, h.1)

-- a place inside the list, and one that is not
inside : (l : List ℕ) (k : ℕ) → k < length l → occurrence_at (slice_get l k) ≡ gives (get_or l k 0)
inside [] k h = absurd (omega arith)
inside (x ∷ l) zero h = refl
inside (x ∷ l) (suc k) h = inside l k (omega arith)

outside : (l : List ℕ) (k : ℕ) → length l ≤ k → occurrence_at (slice_get l k) ≡ refusal NoSuch
outside [] k h = refl
outside (x ∷ l) zero h = absurd (omega arith)
outside (x ∷ l) (suc k) h = outside l k (omega arith)

module _ (rows : List Row) (k : ℕ) where
  pub occurrence_numbered : Numbered (occurrence_of rows k) 12
  occurrence_numbered = go (slice_get (occurrences rows) k)
    where
      go : (o : Option ℕ) → Numbered (occurrence_at o) 12
      go None m p e = sym (same_number e)
      go (Some r) m p e = not_both e refl

  pub occurrence_there : k < length (occurrences rows) → occurrence_of rows k ≡ gives (get_or (occurrences rows) k 0)
  occurrence_there = inside (occurrences rows) k

  pub given_12 : (occurrence_of rows k ≡ refused 12 place.None) ↔ (length (occurrences rows) ≤ k)
  given_12 = (λ e. go e (dec_lt k (length (occurrences rows))), outside (occurrences rows) k)
    where
      go : occurrence_of rows k ≡ refused 12 place.None → Dec (k < length (occurrences rows)) → length (occurrences rows) ≤ k
      go e (yes l) = not_both e (occurrence_there l)
      go e (no l) = omega arith

  -- 12 passed, and what it gives
  pub occurrence_gives : (P : ℕ → Type 0) → Giving (occurrence_of rows k) P ↔ ((k < length (occurrences rows)) × P (get_or (occurrences rows) k 0))
  occurrence_gives P = (
    λ h. (go h.1.0 (dec_lt k (length (occurrences rows))), subst P (found (occurrences rows) k h.1.0).1 h.1.1),
    λ h. (get_or (occurrences rows) k 0, (occurrence_there h.0, h.1)),
  )
    where
      go : {p : ℕ} → occurrence_of rows k ≡ gives p → Dec (k < length (occurrences rows)) → k < length (occurrences rows)
      go e (yes l) = l
      go e (no l) = not_both (outside (occurrences rows) k (omega arith)) e

-- 12 passed
module _ (rows : List Row) (k : ℕ) {p : ℕ} (there : gives p ≡ occurrence_of rows k) where
  pub occurrence_row : p ≡ get_or (occurrences rows) k 0
  occurrence_row = (found (occurrences rows) k (sym there)).1

  pub occurrence_condition : (p < length rows) × So (condition_at rows p)
  occurrence_condition = below_has (condition_at rows) (length rows) p (found (occurrences rows) k (sym there)).0
