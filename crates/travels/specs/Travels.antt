-- The travel of a log as a program prints it: document 02, wish 5.
-- Assumes nothing.
use Rattle.std.specs.Prelude.{List, [], ◌∷◌, ℕ, suc, ℤ, pos, negsuc}
use Rattle.figures.specs.Refusals.{Outcome}
use Rattle.lines.specs.Lines.{decimal, line}
use Rattle.lines.specs.Texts.{in_order, page_by, text_of}
use Rattle.encoder.specs.Log.{steps_in, travel}
use Rattle.logs.specs.LogRefusals.{log_of}

-- `-`
abbrev pub minus : ℕ
minus = 45

-- "one signed decimal number": a sign where it is negative, and its digits
abbrev pub signed_decimal : ℤ → List ℕ
signed_decimal (pos n) = decimal n
signed_decimal (negsuc n) = minus ∷ decimal (suc n)

-- "one signed decimal number a line"
abbrev pub travel_line : ℤ → List ℕ
travel_line t = line (signed_decimal t ∷ [])

-- "prints the travel at each step of a log"
abbrev pub travel_text : List ℕ → List ℕ
travel_text log = in_order (steps_in log) (λ i. travel_line (travel log i))

-- the program's whole output: the travel at each step, or where the log is refused the one line that says so
unfoldable pub travel_page : List ℕ → List ℕ
travel_page log = page_by (log_of log) (travel_text log)

-- the page, or 14 and nothing else
abbrev pub travel_page_of : List ℕ → ℕ → Outcome ℕ
travel_page_of log room = text_of (travel_page log) room
