-- A suite file as its writer writes it: document 01, "The suite file".
-- Assumes nothing.
use Rattle.std.specs.Prelude.{◌≡◌, List, [], ◌∷◌, ◌++◌, map, ℕ, ◌+◌, ◌-◌, ◌*◌, ◌^◌, ◌/◌, ◌<◌, ◌≤◌, length, get_or, replicate}
use Rattle.limits.specs.Limits.{most_conditions, most_requirements, most_runs, most_bytes}
use Rattle.figures.specs.Refusals.Outcome.{gives}
use Rattle.rows.specs.Rows.{Row, kind_number, first, second}
use Rattle.rows.specs.Checks.{requirement_rows}
use Rattle.run_checks.specs.RunChecks.{run_checked}
use Rattle.layout.specs.Layout.{Layout, head_size, word_size}
use Rattle.little.specs.Little.{little}

-- a suite: the number of conditions, the requirements as rows, the runs as words
pub record Parts : Type 0 where
  pub conditions : ℕ
  pub requirements : List (List Row)
  pub runs : List (List ℕ)

-- "three bytes a row": the kind in one byte, then the two fields in the same number of bytes each
abbrev pub row_in : Layout → Row → List ℕ
row_in form r =
    little 1 (kind_number r)
    ++ (little ((form.row_size - 1) / 2) (first r) ++ little ((form.row_size - 1) / 2) (second r))

abbrev pub rows_in : Layout → List Row → List ℕ
rows_in form [] = []
rows_in form (r ∷ rows) = row_in form r ++ rows_in form rows

-- "four a step"
abbrev pub words_in : List ℕ → List ℕ
words_in [] = []
words_in (w ∷ words) = little word_size w ++ words_in words

-- an entry's count, and the body
pub record Item : Type 0 where
  pub count : ℕ
  pub body : List ℕ

abbrev pub requirement_item : Layout → List Row → Item
requirement_item form rows = record { count = length rows; body = rows_in form rows }

abbrev pub run_item : List ℕ → Item
run_item words = record { count = length words; body = words_in words }

-- "one entry a requirement, then one a run", "Then the bodies in the same order"
abbrev pub items_of : Layout → Parts → List Item
items_of form parts = map (requirement_item form) parts.requirements ++ map run_item parts.runs

-- "a two-byte start and a two-byte count of rows or steps"; what an entry has beyond them is 0
abbrev pub entry_of : Layout → ℕ → ℕ → List ℕ
entry_of form start count = little 2 start ++ (little 2 count ++ replicate (form.entry_size - 4) 0)

-- "each next one where the last ended"
abbrev pub contents_of : Layout → ℕ → List Item → List ℕ
contents_of form start [] = []
contents_of form start (item ∷ items) =
    entry_of form start item.count ++ contents_of form (start + length item.body) items

abbrev pub bodies_of : List Item → List ℕ
bodies_of [] = []
bodies_of (item ∷ items) = item.body ++ bodies_of items

-- the bytes of a suite: form, counts, contents, bodies
abbrev pub bytes_of_suite : Layout → Parts → List ℕ
bytes_of_suite form parts =
    form.form ∷ parts.conditions ∷ length parts.requirements ∷ length parts.runs
    ∷ (contents_of form (head_size + form.entry_size * length (items_of form parts)) (items_of form parts)
    ++ bodies_of (items_of form parts))

-- a requirement within the limits: its rows are three numbers each, as many as the form allows, and 8 and 9 are not given
pub record RequirementSound (form : Layout) (conditions : ℕ) (rows : List Row) : Type 0 where
  pub some_row : 1 ≤ length rows
  pub few_rows : length rows ≤ form.most_rows
  pub three : (r : ℕ) → r < length rows → length (get_or rows r []) ≡ 3
  pub passes : requirement_rows conditions rows ≡ gives tt

-- a run within the limits: its words have 32 bits, and 10 and 11 are not given
pub record RunSound (conditions : ℕ) (run : List ℕ) : Type 0 where
  pub bits : (i : ℕ) → i < length run → get_or run i 0 < 2 ^ 32
  pub passes : run_checked conditions run ≡ gives tt

-- a suite within the limits of document 01
pub record SuiteSound (form : Layout) (parts : Parts) : Type 0 where
  pub some_condition : 1 ≤ parts.conditions
  pub few_conditions : parts.conditions ≤ most_conditions
  pub some_requirement : 1 ≤ length parts.requirements
  pub few_requirements : length parts.requirements ≤ most_requirements
  pub some_run : 1 ≤ length parts.runs
  pub few_runs : length parts.runs ≤ most_runs
  pub requirements : (q : ℕ) → q < length parts.requirements → RequirementSound form parts.conditions (get_or parts.requirements q [])
  pub runs : (j : ℕ) → j < length parts.runs → RunSound parts.conditions (get_or parts.runs j [])
  pub few_bytes : length (bytes_of_suite form parts) ≤ most_bytes
