-- Bytes to rows and back: document 01, "Rows are three bytes each: kind, first, second".
-- Assumes nothing.
use Rattle.std.specs.Prelude.{Result, List, [], ◌∷◌, ◌++◌, Bool, cond, ℕ, ◌+◌, ◌*◌, ◌/◌, ◌%◌, leb, length, get_or, drop}
use Rattle.figures.specs.declared.ByteCount.{ByteCount}
use Rattle.figures.specs.declared.Refusal.{Refusal}
use Rattle.figures.specs.declared.Refusal.TheVariants.{ShortOutput}
use Rattle.figures.specs.Refusals.{Outcome, refusal, result_says}
use Rattle.figures.specs.Refusals.Outcome.{gives}
use Rattle.lengths.specs.Lengths.{row_bytes}
use Rattle.figures.specs.Numbers.{tabulate}
use Rattle.rows.specs.Rows.{Row, row}

-- row r is the three bytes from three times r on
abbrev pub row_of : List ℕ → ℕ → Row
row_of bytes r = row (get_or bytes (row_bytes * r) 0) (get_or bytes (row_bytes * r + 1) 0) (get_or bytes (row_bytes * r + 2) 0)

-- the rows of a table's bytes
abbrev pub rows_of : List ℕ → List Row
rows_of bytes = tabulate (length bytes / row_bytes) (row_of bytes)

-- the bytes of a row, and of rows
abbrev pub bytes_of_row : Row → List ℕ
bytes_of_row r = (get_or r 0 0 % 256) ∷ (get_or r 1 0 % 256) ∷ (get_or r 2 0 % 256) ∷ []

abbrev pub bytes_of : List Row → List ℕ
bytes_of [] = []
bytes_of (r ∷ rs) = bytes_of_row r ++ bytes_of rs

-- what writing rows into lent bytes answers: the bytes written, or 14 where they do not fit
abbrev pub encoded_says : Result ByteCount Refusal → Outcome ℕ
encoded_says = result_says (λ b. b.0)

abbrev pub fits : List Row → ℕ → Bool
fits rows room = leb (length rows) (room / row_bytes)

unfoldable pub encode_of : List Row → ℕ → Outcome ℕ
encode_of rows room = cond (fits rows room) (gives (row_bytes * length rows)) (refusal ShortOutput)

-- the lent bytes afterwards: "bytes past those are unchanged", and a refusal "changes no lent byte"
unfoldable pub encoded : List Row → List ℕ → List ℕ
encoded rows out = cond (fits rows (length out)) (bytes_of rows ++ drop (row_bytes * length rows) out) out
