-- Decimal digits read back: they give the number, none stands in front that is zero, and no two numbers have the same.
-- Assumes nothing.
use mathlib.Core.Path.{◌≡◌, refl, sym, ◌∙◌, ap}
use mathlib.Core.List.{List, [], ◌∷◌, ◌++◌}
use Prim.Native.Nat.{ℕ, ◌+◌, ◌-◌, ◌*◌, ◌/◌, ◌%◌, ◌≤◌, ◌<◌}
use native.Mathlib.Omega.{arith}
use lib.ListN.{get_or, get_or-append}
use Rattle.lines.specs.Lines.{digit, decimal}
use Rattle.lines.proofs.Decimal.{one_digit, more_digits, by_digits}
use Rattle.lines.proofs.Width.{width_some}

-- the number that digits give after those before them, the most significant first
unfoldable pub value_from : ℕ → List ℕ → ℕ
value_from n [] = n
value_from n (d ∷ s) = value_from (10 * n + (d - 48)) s

abbrev pub value : List ℕ → ℕ
value s = value_from 0 s

pub value_more : (n : ℕ) (s : List ℕ) (d : ℕ) → value_from n (s ++ (d ∷ [])) ≡ 10 * value_from n s + (d - 48)
unfolding value_from
value_more n [] d = refl
value_more n (e ∷ s) d = value_more (10 * n + (e - 48)) s d

pub value_decimal : (n : ℕ) → value (decimal n) ≡ n
unfolding value_from
value_decimal = by_digits (λ n. value (decimal n) ≡ n) one more
  where
    one : (n : ℕ) → n < 10 → value (decimal n) ≡ n
    one n l = ap value (one_digit n l) ∙ omega arith

    more : (n : ℕ) → 10 ≤ n → value (decimal (n / 10)) ≡ n / 10 → value (decimal n) ≡ n
    more n l ih =
        let e = value_more 0 (decimal (n / 10)) (digit (n % 10)) in
        ap value (more_digits n l) ∙ omega arith

pub no_leading_zero : (n : ℕ) → 0 < n → get_or (decimal n) 0 0 ≡ 48 → ⊥
no_leading_zero = by_digits (λ n. 0 < n → get_or (decimal n) 0 0 ≡ 48 → ⊥) one more
  where
    one : (n : ℕ) → n < 10 → 0 < n → get_or (decimal n) 0 0 ≡ 48 → ⊥
    one n l p z = let e : 48 + n ≡ 48 = ap (λ (s : List ℕ). get_or s 0 0) (sym (one_digit n l)) ∙ z in omega arith

    more : (n : ℕ) → 10 ≤ n → (0 < n / 10 → get_or (decimal (n / 10)) 0 0 ≡ 48 → ⊥) → 0 < n → get_or (decimal n) 0 0 ≡ 48 → ⊥
    more n l ih p z =
        ih (omega arith)
        (sym (get_or-append (decimal (n / 10)) (digit (n % 10) ∷ []) 0 0 (width_some (n / 10)))
        ∙ ap (λ (s : List ℕ). get_or s 0 0) (sym (more_digits n l))
        ∙ z)

pub decimal_unique : (m n : ℕ) → decimal m ≡ decimal n → m ≡ n
decimal_unique m n e = sym (value_decimal m) ∙ ap value e ∙ value_decimal n
