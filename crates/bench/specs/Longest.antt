-- The most bytes of each line of a sheet, and how many marks a requirement and notes a suite has. Nobody needs to believe this page: that they suffice is proved.
-- Assumes nothing.
use Rattle.std.specs.Prelude.{ℕ, ◌+◌, ◌*◌}
use Rattle.limits.specs.Limits.{most_conditions, most_requirements, most_runs}
use Rattle.lengths.specs.Lengths.{most_requirement_rows}

-- a mark for each row of a requirement and each run; a note for each requirement and each of its rows
abbrev pub mark_count : ℕ
mark_count = most_requirement_rows * most_runs

abbrev pub note_count : ℕ
note_count = most_requirements * most_requirement_rows

abbrev pub suite_line_most : ℕ
suite_line_most = 12

abbrev pub req_line_most : ℕ
req_line_most = 22

abbrev pub cov_line_most : ℕ
cov_line_most = 13

abbrev pub answer_most : ℕ
answer_most = 7

abbrev pub cond_line_most : ℕ
cond_line_most = 15

abbrev pub total_line_most : ℕ
total_line_most = 14

-- the `cov` lines of one row of a requirement, and a requirement's block
abbrev pub cov_lines_most : ℕ
cov_lines_most = cov_line_most * most_runs

abbrev pub block_most : ℕ
block_most = req_line_most + cov_lines_most * most_requirement_rows

abbrev pub sheet_most : ℕ
sheet_most = suite_line_most + block_most * most_requirements + cond_line_most * most_conditions + total_line_most
