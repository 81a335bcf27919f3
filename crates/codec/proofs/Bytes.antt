-- Bytes and rows: what is written, what is read, and the round trip both ways.
-- Assumes nothing.
use mathlib.Core.Path.{◌≡◌, refl, sym, ◌∙◌, ap, ap₂, subst⁻¹}
use mathlib.Core.List.{List, [], ◌∷◌, ◌++◌, append_assoc}
use Prim.Native.Nat.{ℕ, ◌+◌, ◌-◌, ◌*◌, ◌/◌, ◌≤◌, ◌<◌, min}
use native.Mathlib.Omega.{arith}
use native.Mathlib.Decide.{dec_lt}
use native.Mathlib.Numerals.{add-one}
use native.Mathlib.Nat.{add-zero}
use borrow.Rule.Slice.PartMut.{put_mid}
use lib.ListN.{length, get_or, take, drop, set, length-append, length-drop, length-take}
use lib.Seq.{take_all, take-suc, take_at, drop_at, drop-drop, get_or-drop}
use Rattle.laws.proofs.Parts.{rest_lent, rest_back}
use Rattle.lengths.specs.Lengths.{row_bytes, most_table_rows}
use Rattle.figures.specs.Numbers.{tabulate}
use Rattle.laws.proofs.Tabulated.{length_tabulate, take_tabulate}
use Rattle.rows.specs.Rows.{Row, row_at}
use Rattle.codec.specs.Codec.{row_of, rows_of, bytes_of_row, bytes_of}

-- three stores at the front
pub set_front : (l : List ℕ) (a b c : ℕ) → 3 ≤ length l → set (set (set l 0 a) 1 b) 2 c ≡ a ∷ b ∷ c ∷ drop 3 l
set_front [] a b c h = absurd (omega arith)
set_front (x ∷ []) a b c h = absurd (omega arith)
set_front (x ∷ y ∷ []) a b c h = absurd (omega arith)
set_front (x ∷ y ∷ z ∷ l) a b c h = refl

pub take_front : (l : List ℕ) → 3 ≤ length l → take 3 l ≡ get_or l 0 0 ∷ get_or l 1 0 ∷ get_or l 2 0 ∷ []
take_front [] h = absurd (omega arith)
take_front (x ∷ []) h = absurd (omega arith)
take_front (x ∷ y ∷ []) h = absurd (omega arith)
take_front (x ∷ y ∷ z ∷ l) h = refl

pub bytes_of_append : (s t : List Row) → bytes_of (s ++ t) ≡ bytes_of s ++ bytes_of t
bytes_of_append [] t = refl
bytes_of_append (r ∷ s) t = ap (λ (x : List ℕ). bytes_of_row r ++ x) (bytes_of_append s t) ∙ sym (append_assoc (bytes_of_row r) (bytes_of s) (bytes_of t))

pub length_bytes_of : (rows : List Row) → length (bytes_of rows) ≡ 3 * length rows
length_bytes_of [] = refl
length_bytes_of (r ∷ rows) = let h = length_bytes_of rows in omega arith

-- a row read from the place where it starts
pub row_there : (bytes : List ℕ) (r : ℕ) → row_of (drop (row_bytes * r) bytes) 0 ≡ row_of bytes r
row_there bytes r = simp (get_or-drop, add-zero)

-- lent bytes after the first r rows were written
abbrev pub written : List Row → List ℕ → ℕ → List ℕ
written rows before r = bytes_of (take r rows) ++ drop (3 * r) before

-- rows written one after the other
module _ (rows : List Row) (before : List ℕ) (fits : 3 * length rows ≤ length before) where
  front : (r : ℕ) → r ≤ length rows → length (bytes_of (take r rows)) ≡ 3 * r
  front r l = omega (arith, length_bytes_of (take r rows), length-take r rows)

  pub length_written : (r : ℕ) → r ≤ length rows → length (written rows before r) ≡ length before
  length_written r l = omega (arith, length-append (bytes_of (take r rows)) (drop (3 * r) before), front r l, length-drop (3 * r) before)

  write_at :
      (r : ℕ) (new : List ℕ) → r < length rows →
      new ≡ bytes_of_row (row_at rows r) ++ drop 3 (take (length (written rows before r) - 3 * r) (drop (3 * r) (written rows before r))) →
      put_mid (3 * r) (length (written rows before r) - 3 * r) (written rows before r) new ≡ written rows before (r + 1)
  write_at r new l e =
      let done = bytes_of (take r rows) in
      let here = bytes_of_row (row_at rows r) in
      let tail : drop (3 * r) (written rows before r) ≡ drop (3 * r) before = drop_at done (drop (3 * r) before) (3 * r) (front r (omega arith)) in
      let what : new ≡ here ++ drop (3 * r + 3) before =
      e ∙ ap (λ (x : List ℕ). here ++ drop 3 x) (rest_lent (3 * r) (written rows before r) ∙ tail) ∙ ap (λ (x : List ℕ). here ++ x) (drop-drop 3 (3 * r) before) in
      let there : 3 * r + 3 ≡ 3 * (r + 1) = omega arith in
      let rows_done : bytes_of (take (r + 1) rows) ≡ done ++ here =
      ap (λ (k : ℕ). bytes_of (take k rows)) (add-one r) ∙ ap bytes_of (take-suc rows r [] l) ∙ bytes_of_append (take r rows) (row_at rows r ∷ []) in
      rest_back (3 * r) (written rows before r) new (omega (arith, length_written r (omega arith)))
      ∙ ap₂ ◌++◌ (take_at done (drop (3 * r) before) (3 * r) (front r (omega arith))) (what ∙ ap (λ (k : ℕ). here ++ drop k before) there)
      ∙ sym (append_assoc done here (drop (3 * (r + 1)) before))
      ∙ ap (λ (x : List ℕ). x ++ drop (3 * (r + 1)) before) (sym rows_done)

  -- one row more, written into the rest of what is lent
  pub write_more :
      (r : ℕ) (out new : List ℕ) → r < length rows → out ≡ written rows before r →
      new ≡ bytes_of_row (row_at rows r) ++ drop 3 (take (length out - 3 * r) (drop (3 * r) out)) →
      put_mid (3 * r) (length out - 3 * r) out new ≡ written rows before (r + 1)
  write_more r out new l is =
      subst⁻¹
      (λ (o : List ℕ).
      new ≡ bytes_of_row (row_at rows r) ++ drop 3 (take (length o - 3 * r) (drop (3 * r) o)) →
      put_mid (3 * r) (length o - 3 * r) o new ≡ written rows before (r + 1))
      is
      (write_at r new l)

pub length_rows_of : (table : List ℕ) → length (rows_of table) ≡ length table / row_bytes
length_rows_of table = length_tabulate (row_of table) (length table / row_bytes)

-- what is past the most is left out
pub taken : {A : Type 0} (f : ℕ → A) (m most k : ℕ) → k ≡ min m most → tabulate k f ≡ take most (tabulate m f)
taken f m most k e = go (dec_lt most m)
  where
    go : Dec (most < m) → tabulate k f ≡ take most (tabulate m f)
    go (yes l) = let q : k ≡ most = omega arith in rw (q, take_tabulate f m most (omega arith))
    go (no l) =
        let q : k ≡ m = omega arith in
        ap (λ (x : ℕ). tabulate x f) q ∙ sym (take_all most (tabulate m f) (omega (arith, length_tabulate f m)))

-- a table of no more rows than the longest is decoded whole
pub all_decoded :
    (bytes : List ℕ) → length bytes / row_bytes ≤ most_table_rows →
    (take most_table_rows (rows_of bytes) ≡ rows_of bytes) × (length (take most_table_rows (rows_of bytes)) ≡ length bytes / row_bytes)
all_decoded bytes l =
    let whole : take most_table_rows (rows_of bytes) ≡ rows_of bytes = take_all most_table_rows (rows_of bytes) (omega (arith, length_rows_of bytes)) in
    (whole, ap length whole ∙ length_rows_of bytes)
