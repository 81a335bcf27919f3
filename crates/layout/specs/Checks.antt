-- The checks of a suite file, 1 to 6, 8, 9 and 11: document 01, "Answers by number".
-- Assumes nothing.
use Rattle.std.specs.Prelude.{Result, Ok, Err, Bool, cond, ◌&&◌, List, ℕ, zero, suc, ◌+◌, ◌*◌, ◌/◌, ◌≤◌, ◌<◌, leb, eqb, length}
use Rattle.std.specs.Prelude.{Option, None, Some}
use Rattle.limits.specs.declared.Suite.{Suite}
use Rattle.figures.specs.declared.ByteOffset.{ByteOffset}
use Rattle.figures.specs.declared.Refusal.{Refusal}
use Rattle.figures.specs.declared.RowPlace.TheVariants as row_place
use Rattle.figures.specs.declared.StepPlace.TheVariants as step_place
use Rattle.figures.specs.declared.Refusal.TheVariants.{Form, Counts, ContentsCut, Entry, FileEnd, UnsoundRow, NotRequirement, StrayBit}
use Rattle.figures.specs.Refusals.{Outcome, refusal, ◌then◌}
use Rattle.figures.specs.Refusals.Outcome.{gives}
use Rattle.limits.specs.Limits.{within, file_of, most_conditions, most_requirements, most_runs}
use Rattle.lengths.specs.Lengths.{most_requirement_rows, most_steps}
use Rattle.figures.specs.Numbers.{tabulate, padded_by, lowest, refused_at}
use Rattle.rows.specs.Rows.{Row}
use Rattle.codec.specs.Codec.{rows_of}
use Rattle.rows.specs.Checks.{lowest_unsound, lowest_unrequired}
use Rattle.signals.specs.Truth.{lowest_stray}
use Rattle.layout.specs.declared.RequirementRange.{RequirementRange}
use Rattle.layout.specs.Layout.{Layout, word_size, form_in, conditions_in, requirements_in, runs_in, items_in, contents_end, entry_at, start_in, count_in, must_begin, entry_right, body_in}
use Rattle.little.specs.Little.{little_at}

-- how many requirements a file may have: a suite from 1 to 16
pub record Range : Type 0 where
  pub least : ℕ
  pub most : ℕ

abbrev pub of_suite : Range
of_suite = record { least = 1; most = most_requirements }

abbrev pub range_of : RequirementRange → Range
range_of range = record { least = range.least.0; most = range.most.0 }

-- 2, "form not 1"
abbrev pub form_checked : Layout → List ℕ → Outcome (Unit {0})
form_checked form file = cond (eqb (form_in file) form.form) (gives tt) (refusal Form)

-- 3, "a count of conditions, requirements or runs beyond its limits"
abbrev pub counts_right : Range → List ℕ → Bool
counts_right range file =
    within 1 most_conditions (conditions_in file)
    && (within range.least range.most (requirements_in file) && within 1 most_runs (runs_in file))

abbrev pub counts_checked : Range → List ℕ → Outcome (Unit {0})
counts_checked range file = cond (counts_right range file) (gives tt) (refusal Counts)

-- 4, "file ends inside the contents"
abbrev pub contents_checked : Layout → List ℕ → Outcome (Unit {0})
contents_checked form file = cond (leb (contents_end form file) (length file)) (gives tt) (refusal ContentsCut)

-- 5, at the first wrong entry
abbrev pub entries_checked : Layout → List ℕ → Outcome (Unit {0})
entries_checked form file =
    refused_at (λ k. Entry (record { 0 = entry_at form k })) (lowest (items_in file) 0 (entry_right form file))

-- what going through the entries finds: 5 at the first wrong one, or where the file must end
abbrev pub contents_found : Layout → List ℕ → Option ℕ → Result ByteOffset Refusal
contents_found form file None = Ok (record { 0 = must_begin form file (items_in file) })
contents_found form file (Some k) = Err (Entry (record { 0 = entry_at form k }))

-- 6, "file does not end with the last body"
abbrev pub end_checked : Layout → List ℕ → Outcome (Unit {0})
end_checked form file = cond (eqb (length file) (must_begin form file (items_in file))) (gives tt) (refusal FileEnd)

-- the counts of a file
abbrev pub counts_of : List ℕ → Suite
counts_of file =
    record
    { conditions = record { 0 = conditions_in file }; requirements = record { 0 = requirements_in file }; runs = record { 0 = runs_in file } }

-- "A file is checked 1 to 6"; a file that passes gives its counts
unfoldable pub contents_of_file : Layout → Range → List ℕ → Outcome Suite
contents_of_file form range file =
    file_of (length file) then λ _.
    form_checked form file then λ _.
    counts_checked range file then λ _.
    contents_checked form file then λ _.
    entries_checked form file then λ _.
    end_checked form file then λ _.
    gives (counts_of file)

-- the words of a run's bytes, four bytes each
abbrev pub words_of : List ℕ → List ℕ
words_of bytes = tabulate (length bytes / word_size) (λ i. little_at word_size bytes (word_size * i))

-- an array of so many words that starts with these, the rest 0
abbrev pub padded_words : ℕ → List ℕ → List ℕ
padded_words = padded_by 0

-- requirement q of a file as rows, and run j as words
abbrev pub requirement_rows_in : Layout → List ℕ → ℕ → List Row
requirement_rows_in form file q = rows_of (body_in form file q)

abbrev pub run_words_in : Layout → List ℕ → ℕ → List ℕ
run_words_in form file j = words_of (body_in form file (requirements_in file + j))

-- "In a file the place of 8, 9 and 11 is the byte offset where the row or word starts": the place of part r of a body that begins at `from`
abbrev pub offset_of : ℕ → ℕ → ℕ → ℕ
offset_of from size r = from + size * r

-- one requirement: 8 over all its rows before 9
abbrev pub requirement_from : ℕ → ℕ → ℕ → List Row → Outcome (Unit {0})
requirement_from conditions from size rows =
    refused_at (λ r. UnsoundRow (row_place.File (record { 0 = offset_of from size r }))) (lowest_unsound conditions rows) then λ _.
    refused_at (λ r. NotRequirement (row_place.File (record { 0 = offset_of from size r }))) (lowest_unrequired rows)

-- one run: 11
abbrev pub run_from : ℕ → ℕ → List ℕ → Outcome (Unit {0})
run_from conditions from run =
    refused_at (λ i. StrayBit (step_place.File (record { 0 = offset_of from word_size i }))) (lowest_stray conditions run)

-- requirement q and run j of a file
abbrev pub requirement_of_file : Layout → List ℕ → ℕ → Outcome (Unit {0})
requirement_of_file form file q =
    requirement_from (conditions_in file) (start_in form file q) form.row_size (requirement_rows_in form file q)

abbrev pub run_of_file : Layout → List ℕ → ℕ → Outcome (Unit {0})
run_of_file form file j = run_from (conditions_in file) (start_in form file (requirements_in file + j)) (run_words_in form file j)

-- "each .. in turn": of the m checks from i on, the first refusal
unfoldable pub in_turn : ℕ → ℕ → (ℕ → Outcome (Unit {0})) → Outcome (Unit {0})
in_turn zero i f = gives tt
in_turn (suc m) i f = f i then λ _. in_turn m (suc i) f

abbrev pub requirements_of_file : Layout → List ℕ → Outcome (Unit {0})
requirements_of_file form file = in_turn (requirements_in file) 0 (requirement_of_file form file)

abbrev pub runs_of_file : Layout → List ℕ → Outcome (Unit {0})
runs_of_file form file = in_turn (runs_in file) 0 (run_of_file form file)

-- "then each requirement in turn .. ; then each run"; a file that passes gives its counts
unfoldable pub file_says : Layout → List ℕ → Outcome Suite
file_says form file =
    contents_of_file form of_suite file then λ counts.
    requirements_of_file form file then λ _.
    runs_of_file form file then λ _.
    gives counts

-- what 5 leaves to the checks after it: no requirement and no run is too long
abbrev pub FewRows : Layout → List ℕ → Type 0
FewRows form file = (q : ℕ) → q < requirements_in file → count_in form file q ≤ most_requirement_rows

abbrev pub FewSteps : Layout → List ℕ → Type 0
FewSteps form file = (j : ℕ) → j < runs_in file → count_in form file (requirements_in file + j) ≤ most_steps
