-- Texts in order: one text more, how long they are together, those by two numbers, and the loop that puts them on a page.
-- Assumes nothing.
use mathlib.Core.Path.{◌≡◌, sym, ◌∙◌, ap, ap₂}
use mathlib.Core.List.{List, ◌++◌, append-nil, append_assoc}
use Prim.Native.Nat.{ℕ, zero, suc, ◌+◌, ◌*◌, ◌/◌, ◌%◌, ◌≤◌, ◌<◌}
use native.Mathlib.Nat.{add-zero, add-suc, add-mul, zero-mul, suc-mul, mul-add, mul-suc, mul-le-mul_left, mod-eq_of_lt, div-eq_of_lt-le, mul-add-mod_self_right}
use native.Mathlib.Numerals.{add-one}
use native.Mathlib.Omega.{arith}
use lib.ListN.{length, length-append}
use Rattle.lines.specs.Texts.{in_order}

module _ (f : ℕ → List ℕ) where
  pub order_more : (m : ℕ) → in_order (m + 1) f ≡ in_order m f ++ f m
  unfolding in_order
  order_more m = rw add-one

  -- texts of at most w bytes each
  pub order_within : (w m : ℕ) → ((j : ℕ) → j < m → length (f j) ≤ w) → length (in_order m f) ≤ w * m
  unfolding in_order
  order_within w zero most = omega arith
  order_within w (suc m) most =
      omega (arith, length-append (in_order m f) (f m), order_within w m (λ j l. most j (omega arith)), most m (omega arith), mul-suc w m)

-- texts by two numbers, the second below b: text n in order is that of n / b and n % b
module _ (f : ℕ → ℕ → List ℕ) (b : ℕ) where
  -- after all of the first numbers below a, those of a and the second numbers below j
  order_next :
      (a : ℕ) → in_order (a * b) (λ n. f (n / b) (n % b)) ≡ in_order a (λ i. in_order b (f i)) → (j : ℕ) → j ≤ b →
      in_order (a * b + j) (λ n. f (n / b) (n % b)) ≡ in_order a (λ i. in_order b (f i)) ++ in_order j (f a)
  unfolding in_order
  order_next a all zero l = rw add-zero (all ∙ sym (append-nil _))
  order_next a all (suc j) l =
      let first : (a * b + j) / b ≡ a = div-eq_of_lt-le b (omega arith) (omega (arith, add-mul a 1 b)) in
      let second : (a * b + j) % b ≡ j = mul-add-mod_self_right a b j ∙ mod-eq_of_lt l in
      rw add-suc
      (ap₂ ◌++◌ (order_next a all j (omega arith)) (ap₂ f first second)
      ∙ append_assoc (in_order a (λ i. in_order b (f i))) (in_order j (f a)) (f a j))

  -- by the first number and then by the second
  pub order_nested : (a : ℕ) → in_order (a * b) (λ n. f (n / b) (n % b)) ≡ in_order a (λ i. in_order b (f i))
  unfolding in_order
  order_nested zero = rw zero-mul
  order_nested (suc a) = rw suc-mul (order_next a (order_nested a) b (omega arith))

-- of texts of at most w bytes each, those below j stand in order after what a page held before
pub record InTurn (f : ℕ → List ℕ) (w : ℕ) (before : List ℕ) (j : ℕ) (now : List ℕ) : Type 0 where
  pub text : now ≡ before ++ in_order j f
  pub ends : length now ≤ length before + w * j

-- none is put yet
pub turn_none : (f : ℕ → List ℕ) (w : ℕ) (before : List ℕ) → InTurn f w before 0 before
unfolding in_order
turn_none f w before = record { text = sym (append-nil before); ends = omega arith }

module _ {f : ℕ → List ℕ} {w : ℕ} {before now : List ℕ} {j : ℕ} (p : InTurn f w before j now) where
  -- room for one text more
  pub turn_room : {many most : ℕ} → length before + w * many ≤ most → j < many → length now + w ≤ most
  turn_room r l = omega (arith, p.ends, mul-suc w j, mul-le-mul_left w l)

  -- and one text more
  pub turn_more : {after : List ℕ} → after ≡ now ++ f j → length after ≤ length now + w → InTurn f w before (j + 1) after
  turn_more e l =
      record {
        text = e ∙ ap (λ (t : List ℕ). t ++ f j) p.text ∙ append_assoc before (in_order j f) (f j) ∙ ap (λ (t : List ℕ). before ++ t) (sym (order_more f j));
        ends = omega (arith, p.ends, mul-add w j 1);
      }
