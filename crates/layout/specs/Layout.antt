-- The form of a suite file and the fields in it: document 01, "The suite file".
-- Assumes nothing.
use Rattle.std.specs.Prelude.{Bool, cond, ◌&&◌, List, [], ◌∷◌, ℕ, zero, suc, ◌+◌, ◌*◌, ◌/◌, ◌%◌, ltb, eqb, get_or, take, drop}
use Rattle.lengths.specs.Lengths.{row_bytes, most_requirement_rows, most_steps}
use Rattle.limits.specs.Limits.{within}

-- what a form fixes: its number in byte 0, the bytes of a row and of an entry, the most rows of a requirement
pub record Layout : Type 0 where
  pub form : ℕ
  pub row_size : ℕ
  pub entry_size : ℕ
  pub most_rows : ℕ

-- "Byte 0 is 1 (the form)", "three bytes a row", "a two-byte start and a two-byte count"
abbrev pub form1 : Layout
form1 = record { form = 1; row_size = row_bytes; entry_size = 4; most_rows = most_requirement_rows }

-- "four a step"
abbrev pub word_size : ℕ
word_size = 4

-- byte 0 and "bytes 1, 2, 3 are the numbers of conditions, requirements and runs"
abbrev pub head_size : ℕ
head_size = 4

-- "Two-byte and four-byte numbers are little-endian": a number in so many bytes, and the number that stands at a place
abbrev pub little : ℕ → ℕ → List ℕ
little zero n = []
little (suc w) n = n % 256 ∷ little w (n / 256)

abbrev pub little_at : ℕ → List ℕ → ℕ → ℕ
little_at zero bytes at = 0
little_at (suc w) bytes at = get_or bytes at 0 + 256 * little_at w bytes (at + 1)

-- the counts in the head of a file
abbrev pub form_in : List ℕ → ℕ
form_in file = get_or file 0 0

abbrev pub conditions_in : List ℕ → ℕ
conditions_in file = get_or file 1 0

abbrev pub requirements_in : List ℕ → ℕ
requirements_in file = get_or file 2 0

abbrev pub runs_in : List ℕ → ℕ
runs_in file = get_or file 3 0

-- "one entry a requirement, then one a run": how many, and where the contents end
abbrev pub items_in : List ℕ → ℕ
items_in file = requirements_in file + runs_in file

abbrev pub contents_end : Layout → List ℕ → ℕ
contents_end form file = head_size + form.entry_size * items_in file

-- "each a two-byte start (offset from byte 0) and a two-byte count of rows or steps": entry k and its two fields
abbrev pub entry_at : Layout → ℕ → ℕ
entry_at form k = head_size + form.entry_size * k

abbrev pub start_in : Layout → List ℕ → ℕ → ℕ
start_in form file k = little_at 2 file (entry_at form k)

abbrev pub count_in : Layout → List ℕ → ℕ → ℕ
count_in form file k = little_at 2 file (entry_at form k + 2)

-- item k is a requirement where k is below their number, else a run: the bytes of one row or step, and the most of them
abbrev pub unit_of : Layout → List ℕ → ℕ → ℕ
unit_of form file k = cond (ltb k (requirements_in file)) form.row_size word_size

abbrev pub most_of : Layout → List ℕ → ℕ → ℕ
most_of form file k = cond (ltb k (requirements_in file)) form.most_rows most_steps

abbrev pub body_size : Layout → List ℕ → ℕ → ℕ
body_size form file k = unit_of form file k * count_in form file k

-- "The first body starts right after the contents, each next one where the last ended"; past the last one, where the file ends
unfoldable pub must_begin : Layout → List ℕ → ℕ → ℕ
must_begin form file zero = contents_end form file
must_begin form file (suc k) = must_begin form file k + body_size form file k

-- 5, "an entry's start isn't where its body must begin, or its count is beyond the limits": what an entry must be
abbrev pub entry_right : Layout → List ℕ → ℕ → Bool
entry_right form file k =
    eqb (start_in form file k) (must_begin form file k) && within 1 (most_of form file k) (count_in form file k)

-- the body of item k, a part of the file
abbrev pub body_in : Layout → List ℕ → ℕ → List ℕ
body_in form file k = take (body_size form file k) (drop (start_in form file k) file)
