-- Little-endian numbers: written and read back, read and written back, and the place where they are read.
-- Assumes nothing.
use mathlib.Core.Path.{◌≡◌, refl, sym, ◌∙◌, ap, ap₂}
use mathlib.Core.List.{List, [], ◌∷◌, ◌++◌}
use Prim.Native.Nat.{ℕ, zero, suc, ◌+◌, ◌*◌, ◌^◌, ◌/◌, ◌%◌, ◌≤◌, ◌<◌}
use native.Mathlib.Omega.{arith}
use native.Mathlib.Numerals.{add-one}
use native.Mathlib.Nat.{pow-suc}
use lib.ListN.{length, get_or, take, drop}
use lib.Seq.{drop-cons, get_or-drop, get_or-append-add}
use Rattle.little.specs.Little.{little, little_at}
use Rattle.suite_laws.proofs.Parts.{Bytes}

pub length_little : (w n : ℕ) → length (little w n) ≡ w
length_little zero n = refl
length_little (suc w) n = ap suc (length_little w (n / 256))

-- a number is read from the place where it stands
pub read_past : (w : ℕ) (front rest : List ℕ) (at : ℕ) → little_at w (front ++ rest) (length front + at) ≡ little_at w rest at
read_past zero front rest at = refl
read_past (suc w) front rest at =
    let further : length front + at + 1 ≡ length front + (at + 1) = omega arith in
    ap₂ (λ (a b : ℕ). a + 256 * b) (get_or-append-add front rest at 0)
    (ap (little_at w (front ++ rest)) further ∙ read_past w front rest (at + 1))

pub read_there : (w : ℕ) (bytes : List ℕ) (from at : ℕ) → little_at w (drop from bytes) at ≡ little_at w bytes (from + at)
read_there zero bytes from at = refl
read_there (suc w) bytes from at =
    let further : from + (at + 1) ≡ from + at + 1 = omega arith in
    ap₂ (λ (a b : ℕ). a + 256 * b) (get_or-drop from bytes at 0)
    (read_there w bytes from (at + 1) ∙ ap (little_at w bytes) further)

-- written and read back
pub number_back : (w n : ℕ) (rest : List ℕ) → n < 256 ^ w → little_at w (little w n ++ rest) 0 ≡ n
number_back zero n rest l = omega arith
number_back (suc w) n rest l =
    let high : n / 256 < 256 ^ w = omega (arith, pow-suc 256 w) in
    ap (λ (b : ℕ). n % 256 + 256 * b)
    (read_past w (n % 256 ∷ []) (little w (n / 256) ++ rest) 0 ∙ number_back w (n / 256) rest high)
    ∙ omega arith

-- read and written back
module _ (bytes : List ℕ) (small : Bytes bytes) where
  pub number_small : (w at : ℕ) → little_at w bytes at < 256 ^ w
  number_small zero at = omega arith
  number_small (suc w) at = let h = number_small w (at + 1) in omega (arith, pow-suc 256 w, small at)

  pub bytes_back : (w at : ℕ) → at + w ≤ length bytes → little w (little_at w bytes at) ≡ take w (drop at bytes)
  bytes_back zero at l = refl
  bytes_back (suc w) at l =
      let low = small at in
      let rest = little_at w bytes (at + 1) in
      let here : (get_or bytes at 0 + 256 * rest) % 256 ≡ get_or bytes at 0 = omega arith in
      let high : (get_or bytes at 0 + 256 * rest) / 256 ≡ rest = omega arith in
      let cut : drop at bytes ≡ get_or bytes at 0 ∷ drop (at + 1) bytes = rw add-one (drop-cons bytes at 0 (omega arith)) in
      ap₂ (λ (a b : ℕ). a ∷ little w b) here high
      ∙ ap (λ (l : List ℕ). get_or bytes at 0 ∷ l) (bytes_back w (at + 1) (omega arith))
      ∙ sym (ap (take (suc w)) cut)
