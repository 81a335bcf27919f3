-- A requirement's bytes by rows: how many there are, and that each is three bytes of them.
-- Assumes nothing.
use mathlib.Core.Path.{◌≡◌, sym, ◌∙◌, ap}
use mathlib.Core.List.{List, []}
use Prim.Native.Nat.{ℕ, ◌+◌, ◌-◌, ◌*◌, ◌/◌, ◌≤◌, ◌<◌}
use native.Mathlib.Omega.{arith}
use lib.ListN.{length, take, drop, length-drop}
use Rattle.lengths.specs.Lengths.{row_bytes}
use Rattle.laws.proofs.Parts.{rest_lent}
use Rattle.laws.proofs.Tabulated.{get_d_tabulate}
use Rattle.rows.specs.Rows.{row_at}
use Rattle.codec.specs.Codec.{row_of, rows_of}
use Rattle.codec.proofs.Bytes.{length_rows_of, row_there}

-- of bytes lent that are a requirement's: how many rows they have
pub rows_of_lem : {lent body : List ℕ} → lent ≡ body → length lent / row_bytes ≡ length (rows_of body)
rows_of_lem {lent} {body} e = ap (λ (l : List ℕ). length l / row_bytes) e ∙ sym (length_rows_of body)

module _ {lent body : List ℕ} (e : lent ≡ body) (p : ℕ) (l : p < length (rows_of body)) where
  -- that row p is inside them, and its bytes
  pub inside : row_bytes * p + row_bytes ≤ length lent
  inside = omega (arith, rows_of_lem e)

  is_row : row_at (rows_of body) p ≡ row_of lent p
  is_row = rw e (get_d_tabulate (row_of body) (length body / row_bytes) p [] (omega (arith, length_rows_of body)))

  -- the bytes from where it starts
  abbrev from_there : List ℕ
  from_there = take (length lent - row_bytes * p) (drop (row_bytes * p) lent)

  pub three_lent : row_bytes ≤ length from_there
  three_lent = rw (rest_lent (row_bytes * p) lent) (omega (arith, inside, length-drop (row_bytes * p) lent))

  pub row_lent : row_of from_there 0 ≡ row_at (rows_of body) p
  row_lent = rw (rest_lent (row_bytes * p) lent) (row_there lent p ∙ sym is_row)
