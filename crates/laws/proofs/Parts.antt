-- A part of a slice from a place on to its end: what is lent, and the slice when it comes back; and a copy to the front.
-- Assumes nothing.
use mathlib.Core.Path.{◌≡◌, sym, ◌∙◌, ap}
use mathlib.Core.List.{List, [], ◌∷◌, ◌++◌, append-nil, append_assoc}
use Prim.Native.Nat.{ℕ, suc, ◌+◌, ◌-◌, ◌≤◌, ◌<◌}
use native.Mathlib.Numerals.{add-one}
use native.Mathlib.Omega.{arith}
use lib.ListN.{length, take, drop, get_or, set, length-append, length-drop, drop_of_length-le}
use lib.Seq.{take_all, take-suc, drop-cons, set_at, length-take-le}
use borrow.Rule.Slice.PartMut.{put_mid, Post-is}

module _ {A : Type 0} (a : ℕ) (xs : List A) where
  -- what is lent
  pub rest_lent : take (length xs - a) (drop a xs) ≡ drop a xs
  rest_lent = take_all (length xs - a) (drop a xs) (omega (arith, length-drop a xs))

  -- what comes back
  pub rest_back : (ys : List A) → a ≤ length xs → put_mid a (length xs - a) xs ys ≡ take a xs ++ ys
  rest_back ys l =
      ap (λ (t : List A). take a xs ++ (ys ++ t)) (Post-is a (length xs) xs l ∙ drop_of_length-le xs {i = length xs} (omega arith))
      ∙ ap (λ (t : List A). take a xs ++ t) (append-nil ys)

-- a loop that copies to the front: one element more
module _ {A : Type 0} (new before : List A) (d : A) where
  abbrev pub copied : ℕ → List A
  copied r = take r new ++ drop r before

  pub copy_more : (r : ℕ) → r < length new → length new ≤ length before → set (copied r) r (get_or new r d) ≡ copied (r + 1)
  copy_more r l fits =
      ap (λ (t : List A). set (take r new ++ t) r (get_or new r d)) (drop-cons before r d (omega arith))
      ∙ set_at (take r new) (get_or before r d) (drop (suc r) before) (get_or new r d) r (length-take-le r new (omega arith))
      ∙ sym (append_assoc (take r new) (get_or new r d ∷ []) (drop (suc r) before))
      ∙ ap (λ (t : List A). t ++ drop (suc r) before) (sym (take-suc new r d l))
      ∙ ap (λ (k : ℕ). take k new ++ drop k before) (sym (add-one r))

  pub length_copied : (r : ℕ) → r ≤ length new → length new ≤ length before → length (copied r) ≡ length before
  length_copied r l fits =
      omega (arith, length-append (take r new) (drop r before), length-take-le r new l, length-drop r before)
