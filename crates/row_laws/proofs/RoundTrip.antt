-- Bytes to rows and back give the same bytes; rows to bytes and back give the same rows, if their numbers are bytes.
-- Assumes nothing.
use mathlib.Core.Path.{◌≡◌, refl, sym, ◌∙◌, ap, ap₂}
use mathlib.Core.List.{List, [], ◌∷◌, ◌++◌}
use Prim.Native.Nat.{ℕ, zero, suc, ◌+◌, ◌*◌, ◌/◌, ◌%◌, ◌≤◌, ◌<◌}
use native.Mathlib.Omega.{arith}
use native.Mathlib.Nat.{add-zero}
use lib.ListN.{length, get_or, take, drop, length-drop, get_or-append}
use lib.Seq.{take_all, take-add, get_or-drop, get_or-append-add, ext_get_or}
use Rattle.lengths.specs.Lengths.{row_bytes}
use Rattle.figures.specs.Numbers.{tabulate}
use Rattle.laws.proofs.Tabulated.{length_tabulate, get_d_tabulate}
use Rattle.rows.specs.Rows.{Row, row, row_at}
use Rattle.codec.specs.Codec.{row_of, rows_of, bytes_of_row, bytes_of}
use Rattle.codec.proofs.Bytes.{take_front, bytes_of_append, length_bytes_of}

-- every number of a list is a byte
abbrev pub Bytes : List ℕ → Type 0
Bytes l = (i : ℕ) → i < length l → get_or l i 0 < 256

as_byte : (n : ℕ) → n < 256 → n % 256 ≡ n
as_byte n h = omega arith

module _ (bytes : List ℕ) (small : Bytes bytes) where
  -- the first m rows are the first bytes, three a row
  front : (m : ℕ) → row_bytes * m ≤ length bytes → bytes_of (tabulate m (row_of bytes)) ≡ take (row_bytes * m) bytes
  unfolding tabulate
  front zero l = refl
  front (suc m) l =
      let at = row_bytes * m in
      let here : bytes_of_row (row_of bytes m) ≡ take 3 (drop at bytes) =
      rw (as_byte _ (small at (omega arith)), as_byte _ (small (at + 1) (omega arith)), as_byte _ (small (at + 2) (omega arith)))
      (sym (take_front (drop at bytes) (omega (arith, length-drop at bytes)) ∙ three at)) in
      let next : row_bytes * suc m ≡ at + 3 = omega arith in
      bytes_of_append (tabulate m (row_of bytes)) (row_of bytes m ∷ [])
      ∙ ap₂ ◌++◌ (front m (omega arith)) here
      ∙ sym (ap (λ (k : ℕ). take k bytes) next ∙ take-add at 3 bytes)
    where
      three : (at : ℕ) → get_or (drop at bytes) 0 0 ∷ get_or (drop at bytes) 1 0 ∷ get_or (drop at bytes) 2 0 ∷ [] ≡ row (get_or bytes at 0) (get_or bytes (at + 1) 0) (get_or bytes (at + 2) 0)
      three at = simp (get_or-drop, add-zero)

  -- bytes decoded and encoded
  pub bytes_back : length bytes % row_bytes ≡ 0 → bytes_of (rows_of bytes) ≡ bytes
  bytes_back whole =
      front (length bytes / row_bytes) (omega arith)
      ∙ take_all (row_bytes * (length bytes / row_bytes)) bytes (omega arith)

-- byte j of row r stands three times r and j further on
byte_at : (rows : List Row) (r j : ℕ) → j < 3 → r < length rows → get_or (bytes_of rows) (row_bytes * r + j) 0 ≡ get_or (bytes_of_row (row_at rows r)) j 0
byte_at [] r j h l = absurd (omega arith)
byte_at (x ∷ rows) zero j h l =
    let e : row_bytes * 0 + j ≡ j = omega arith in
    ap (λ (k : ℕ). get_or (bytes_of_row x ++ bytes_of rows) k 0) e ∙ get_or-append (bytes_of_row x) (bytes_of rows) 0 j h
byte_at (x ∷ rows) (suc r) j h l =
    let e : row_bytes * suc r + j ≡ 3 + (row_bytes * r + j) = omega arith in
    ap (λ (k : ℕ). get_or (bytes_of_row x ++ bytes_of rows) k 0) e
    ∙ get_or-append-add (bytes_of_row x) (bytes_of rows) (row_bytes * r + j) 0
    ∙ byte_at rows r j h (omega arith)

-- a row of three numbers that are bytes
pub record ByteRow (r : Row) : Type 0 where
  pub three : length r ≡ 3
  pub small : Bytes r

pub rows_back : (rows : List Row) → ((r : ℕ) → r < length rows → ByteRow (row_at rows r)) → rows_of (bytes_of rows) ≡ rows
rows_back rows small =
    ext_get_or [] (rows_of (bytes_of rows)) rows count
    (λ r l. get_d_tabulate (row_of (bytes_of rows)) _ r [] (omega (arith, count, length_tabulate (row_of (bytes_of rows)) (length (bytes_of rows) / row_bytes))) ∙ same r (omega (arith, count)))
  where
    count : length (rows_of (bytes_of rows)) ≡ length rows
    count = omega (arith, length_tabulate (row_of (bytes_of rows)) (length (bytes_of rows) / row_bytes), length_bytes_of rows)

    same : (r : ℕ) → r < length rows → row_of (bytes_of rows) r ≡ row_at rows r
    same r l =
        let h = small r l in
        let three = h.three in
        let zero_on : row_bytes * r + 0 ≡ row_bytes * r = omega arith in
        let byte : (j : ℕ) → j < 3 → get_or (bytes_of_row (row_at rows r)) j 0 ≡ get_or (row_at rows r) j 0 → get_or (bytes_of rows) (row_bytes * r + j) 0 ≡ get_or (row_at rows r) j 0 =
        λ j g e. byte_at rows r j g l ∙ e in
        let first = byte 0 (omega arith) (as_byte _ (h.small 0 (omega arith))) in
        let second = byte 1 (omega arith) (as_byte _ (h.small 1 (omega arith))) in
        let third = byte 2 (omega arith) (as_byte _ (h.small 2 (omega arith))) in
        rw (rw zero_on at first, second, third)
        (sym (take_front (row_at rows r) (omega arith)) ∙ take_all 3 (row_at rows r) (omega arith))
