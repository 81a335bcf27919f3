-- What the operation `trap` answers and writes: document 01, "Trap rows" and "Answers by number".
-- Assumes nothing.
use Rattle.std.specs.Prelude.{Result, cond, List, ◌++◌, ℕ, ◌*◌, leb, length, drop, get_or}
use Rattle.figures.specs.declared.ByteCount.{ByteCount}
use Rattle.figures.specs.declared.Refusal.{Refusal}
use Rattle.figures.specs.declared.Refusal.TheVariants.{TrapRows}
use Rattle.figures.specs.Refusals.{Outcome, refusal, result_says, ◌then◌}
use Rattle.figures.specs.Refusals.Outcome.{refused, gives}
use Rattle.lengths.specs.Lengths.{row_bytes, most_table_rows}
use Rattle.rows.specs.Rows.{Row}
use Rattle.codec.specs.Codec.{rows_of, bytes_of, encode_of}
use Rattle.rows.specs.Checks.{requirement_sized, requirement_rows, occurrence_of, occurrences}
use Rattle.rules.specs.TrapRows.{trap_table}

-- what an answer says: the bytes written, or the refusal's number and place
abbrev pub trap_says : Result ByteCount Refusal → Outcome ℕ
trap_says = result_says (λ bytes. bytes.0)

-- lent bytes with a table's bytes at the front
abbrev pub table_written : List Row → List ℕ → List ℕ
table_written rows out = bytes_of rows ++ drop (row_bytes * length rows) out

-- 13, "trap table over 224 rows"; then 14, "for a trap its own length"; p is the occurrence's row
abbrev pub trap_for : List Row → ℕ → ℕ → Outcome ℕ
trap_for rows room p =
    cond (leb (length (trap_table rows p)) most_table_rows) (encode_of (trap_table rows p) room) (refusal TrapRows)

-- 8, 9, 12, 13, 14
abbrev pub rows_trap : List Row → ℕ → ℕ → ℕ → Outcome ℕ
rows_trap rows conditions occurrence room =
    requirement_rows conditions rows then λ _. occurrence_of rows occurrence then λ p. trap_for rows room p

-- 3, 7, 8, 9, 12, 13, 14; else the bytes written
unfoldable pub trap_of : List ℕ → ℕ → ℕ → ℕ → Outcome ℕ
trap_of requirement conditions occurrence room =
    requirement_sized conditions (length requirement) then λ _. rows_trap (rows_of requirement) conditions occurrence room

-- the lent bytes afterwards: the trap table's bytes and then what stood there; as they were where it is refused
abbrev pub lent_after : Outcome ℕ → List ℕ → List ℕ → List ℕ
lent_after (refused n p) bytes out = out
lent_after (gives n) bytes out = bytes ++ drop n out

-- the bytes of the trap table of an occurrence of these rows
abbrev pub trap_bytes : List Row → ℕ → List ℕ
trap_bytes rows occurrence = bytes_of (trap_table rows (get_or (occurrences rows) occurrence 0))

abbrev pub rows_lent : List Row → ℕ → ℕ → List ℕ → List ℕ
rows_lent rows conditions occurrence out = lent_after (rows_trap rows conditions occurrence (length out)) (trap_bytes rows occurrence) out

abbrev pub trap_lent : List ℕ → ℕ → ℕ → List ℕ → List ℕ
trap_lent requirement conditions occurrence out =
    lent_after (trap_of requirement conditions occurrence (length out)) (trap_bytes (rows_of requirement) occurrence) out
