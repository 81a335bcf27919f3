-- What the sheet's operations answer and write: document 01, "The bench sheet, whole" and "Answers by number".
-- Assumes nothing.
use Rattle.std.specs.Prelude.{List, ℕ}
use Rattle.figures.specs.Refusals.{Outcome, ◌then◌}
use Rattle.lines.specs.Texts.{page_by, text_of}
use Rattle.layout.specs.Layout.{form1}
use Rattle.layout.specs.Checks.{file_says}
use Rattle.bench.specs.Sheet.{sheet_text}
use Rattle.bench.specs.Files.{bench_of}

-- the sheet of a suite file
abbrev pub sheet_of_file : List ℕ → List ℕ
sheet_of_file file = sheet_text (bench_of file file)

-- the program's whole output: the sheet, or where the file is refused the one line that says so
unfoldable pub page_text : List ℕ → List ℕ
page_text file = page_by (file_says form1 file) (sheet_of_file file)

-- the page, or 14 and nothing else
abbrev pub page_of : List ℕ → ℕ → Outcome ℕ
page_of file room = text_of (page_text file) room

-- the sheet: the file's refusals, then 14
unfoldable pub sheet_of : List ℕ → ℕ → Outcome ℕ
sheet_of file room = file_says form1 file then λ _. text_of (sheet_of_file file) room
