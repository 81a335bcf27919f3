-- What an answer is in C: document 01, "Answers by number", as the fields of one struct.
-- Assumes nothing.
use Rattle.std.specs.Prelude.{Bool, true, false, ℕ}
use Rattle.std.specs.Prelude.{Option, None, Some}
use Rattle.figures.specs.declared.Place.{Place}
use Rattle.figures.specs.declared.Place.TheVariants as place
use Rattle.figures.specs.Refusals.{Outcome, printed_place}
use Rattle.figures.specs.Refusals.Outcome.{refused, gives}
use Rattle.wire.specs.declared.Answer.{Answer}

-- the kinds of an answer
abbrev pub kind_refused : ℕ
kind_refused = 0

abbrev pub kind_holds : ℕ
kind_holds = 1

abbrev pub kind_fails : ℕ
kind_fails = 2

abbrev pub kind_written : ℕ
kind_written = 3

abbrev pub kind_covered : ℕ
kind_covered = 4

abbrev pub kind_uncovered : ℕ
kind_uncovered = 5

abbrev pub kind_taken : ℕ
kind_taken = 6

-- "the byte offset where the entry, row or word starts", "the row or step number": what a place is a number of, 0 for none
abbrev pub unit_of : Place → ℕ
unit_of place.None = 0
unit_of (place.Byte b) = 1
unit_of (place.Row r) = 2
unit_of (place.Step i) = 3

-- the fields of an answer: kind, unit of the place, refusal number, place, bytes written, steps; one that an answer does not have is 0
abbrev pub answer_of : ℕ → ℕ → ℕ → ℕ → ℕ → ℕ → Answer
answer_of k u n p b s =
    record {
      kind = record { 0 = k };
      unit = record { 0 = u };
      refusal = record { 0 = n };
      place = record { 0 = p };
      written = record { 0 = b };
      steps = record { 0 = s };
    }

-- "Each refusal returns its number and a place, and changes no lent byte"
abbrev pub refused_answer : ℕ → Place → Answer
refused_answer n p = answer_of kind_refused (unit_of p) n (printed_place p) 0 0

abbrev pub given_answer : ℕ → ℕ → ℕ → Answer
given_answer kind bytes steps = answer_of kind 0 0 0 bytes steps

-- holds or fails
abbrev pub truth_answer : Outcome Bool → Answer
truth_answer (refused n p) = refused_answer n p
truth_answer (gives true) = given_answer kind_holds 0 0
truth_answer (gives false) = given_answer kind_fails 0 0

-- "An operation that writes also returns how many bytes it wrote"
abbrev pub written_answer : Outcome ℕ → Answer
written_answer (refused n p) = refused_answer n p
written_answer (gives bytes) = given_answer kind_written bytes 0

-- covered with the bytes written; "for an uncovered pair the answer says so and the buffer is unchanged"
abbrev pub witness_answer : Outcome (Option ℕ) → Answer
witness_answer (refused n p) = refused_answer n p
witness_answer (gives None) = given_answer kind_uncovered 0 0
witness_answer (gives (Some bytes)) = given_answer kind_covered bytes 0

-- "its number of steps in place of bytes"
abbrev pub taken_answer : Outcome ℕ → Answer
taken_answer (refused n p) = refused_answer n p
taken_answer (gives steps) = given_answer kind_taken 0 steps
