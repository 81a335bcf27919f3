-- What `any` finds in a chain: whether a property holds at some number below a count, or at some place of a part of a list.
-- Assumes nothing.
use mathlib.Core.Path.{◌≡◌, refl, ◌∙◌, ap}
use mathlib.Core.Bool.{Bool, false, ◌||◌}
use mathlib.Core.List.{List}
use Prim.Native.Nat.{ℕ, zero, suc, ◌+◌, ◌≤◌}
use native.Mathlib.Numerals.{add-one}
use native.Mathlib.Omega.{arith}
use lib.ListN.{length, get_or, take, drop}
use lib.Seq.{drop-cons}
use Rattle.std.specs.List.{list_any, range_with_len}
use Rattle.signals.specs.Signals.{some}

-- of the m numbers from i on
any_from : (m i : ℕ) (f : ℕ → Bool) → list_any f (range_with_len i m) ≡ some m i f
unfolding some
any_from zero i f = refl
any_from (suc m) i f =
    ap (λ (k : ℕ). f i || list_any f (range_with_len k m)) (add-one i) ∙ ap (λ (b : Bool). f i || b) (any_from m (suc i) f)

pub any_below : (m : ℕ) (f : ℕ → Bool) → list_any f (range_with_len 0 m) ≡ some m 0 f
any_below m f = any_from m 0 f

-- of the m values from base + i on
any_part_from :
    (xs : List Bool) (base m i : ℕ) → base + i + m ≤ length xs →
    list_any (λ b. b) (take m (drop (base + i) xs)) ≡ some m i (λ j. get_or xs (base + j) false)
unfolding some
any_part_from xs base zero i l = refl
any_part_from xs base (suc m) i l =
    let next : suc (base + i) ≡ base + suc i = omega arith in
    rw (drop-cons xs (base + i) false (omega arith), next)
    (ap (λ (b : Bool). get_or xs (base + i) false || b) (any_part_from xs base m (suc i) (omega arith)))

pub any_part :
    (xs : List Bool) (base m : ℕ) → base + m ≤ length xs →
    list_any (λ b. b) (take m (drop base xs)) ≡ some m 0 (λ j. get_or xs (base + j) false)
any_part xs base m l =
    let start : base + 0 ≡ base = omega arith in
    rw start at (any_part_from xs base m 0 (omega arith))
