-- What the operation `witness` answers and writes: document 01, "Coverage" and "Answers by number".
-- Assumes nothing.
use Rattle.std.specs.Prelude.{◌≡◌, Result, false, cond, List, ◌++◌, ℕ, leb, length, get_or, take, drop}
use Rattle.std.specs.Prelude.{Option, None, Some}
use Rattle.figures.specs.declared.ByteCount.{ByteCount}
use Rattle.figures.specs.declared.Refusal.{Refusal}
use Rattle.figures.specs.declared.Refusal.TheVariants.{ShortOutput}
use Rattle.figures.specs.Refusals.{Outcome, refusal, result_says, ◌then◌}
use Rattle.figures.specs.Refusals.Outcome.{refused, gives}
use Rattle.rows.specs.Rows.{Row}
use Rattle.codec.specs.Codec.{rows_of}
use Rattle.rows.specs.Checks.{requirement_sized, requirement_rows, occurrences, occurrence_of}
use Rattle.signals.specs.Truth.{reads_of, flip, verdict_of, sequence_of}
use Rattle.run_checks.specs.RunChecks.{run_checked}
use Rattle.coverage.specs.Coverage.{covered}

-- what an answer says: covered with the bytes written, uncovered, or the refusal's number and place
abbrev pub bytes_said : Option ByteCount → Option ℕ
bytes_said (Some bytes) = Some bytes.0
bytes_said None = None

abbrev pub witness_says : Result (Option ByteCount) Refusal → Outcome (Option ℕ)
witness_says = result_says bytes_said

-- 14, "for a witness the number of steps (asked of covered pairs only)"
abbrev pub room_for : ℕ → ℕ → Outcome (Option ℕ)
room_for steps room = cond (leb steps room) (gives (Some steps)) (refusal ShortOutput)

-- the answer once the requirement, the run and the occurrence's row p are known
abbrev pub pair_says : List Row → List ℕ → ℕ → ℕ → Outcome (Option ℕ)
pair_says rows run room p = cond (covered rows (reads_of rows run) (length run) p) (room_for (length run) room) (gives None)

-- 8, 9, 10, 11, 12, then covered or not, then 14
abbrev pub rows_witness : List Row → List ℕ → ℕ → ℕ → ℕ → Outcome (Option ℕ)
rows_witness rows run conditions occurrence room =
    requirement_rows conditions rows then λ _.
    run_checked conditions run then λ _.
    occurrence_of rows occurrence then λ p.
    pair_says rows run room p

-- 3, 7, 8, 9, 10, 11, 12, then covered or not, then 14
unfoldable pub witness_of : List ℕ → List ℕ → ℕ → ℕ → ℕ → Outcome (Option ℕ)
witness_of requirement run conditions occurrence room =
    requirement_sized conditions (length requirement) then λ _. rows_witness (rows_of requirement) run conditions occurrence room

-- the lent bytes afterwards: the witness and then what stood there; as they were where nothing is written
abbrev pub lent_after : Outcome (Option ℕ) → List ℕ → List ℕ → List ℕ
lent_after (refused n p) bytes out = out
lent_after (gives None) bytes out = out
lent_after (gives (Some steps)) bytes out = bytes ++ drop steps out

-- "read by that occurrence in place of its condition .. makes it false": what is written, of so many bytes, does
abbrev pub Falsified : Result (Option ByteCount) Refusal → List ℕ → List ℕ → ℕ → List ℕ → Type 0
Falsified r requirement run occurrence out =
    (n : ℕ) → witness_says r ≡ gives (Some n) →
    verdict_of (rows_of requirement)
    (flip (get_or (occurrences (rows_of requirement)) occurrence 0) (sequence_of (take n out)) (reads_of (rows_of requirement) run))
    (length run)
    ≡ false
