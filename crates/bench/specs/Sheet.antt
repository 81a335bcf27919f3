-- The bench sheet's text: document 01, "The bench sheet, whole".
-- Assumes nothing.
use Rattle.std.specs.Prelude.{Bool, cond, List, [], ◌∷◌, ◌++◌, ℕ, length}
use Rattle.lines.specs.Lines.{decimal, line}
use Rattle.rows.specs.Rows.{Row}
use Rattle.rows.specs.Checks.{occurrences}
use Rattle.bench.specs.declared.ConditionAnswer.{ConditionAnswer}
use Rattle.bench.specs.declared.ConditionAnswer.TheVariants as answer
use Rattle.lines.specs.Texts.{in_order}
use Rattle.bench.specs.Coverage.{Bench, held_of, covered_of, mattered_count, all_occurrences, condition_read, condition_covered, pairs_listed}

-- the sheet's words: `suite`, `req`, `occ`, `held`, `cov`, `cond`, `yes`, `no`, `unused`, `total`
abbrev pub suite_word : List ℕ
suite_word = 115 ∷ 117 ∷ 105 ∷ 116 ∷ 101 ∷ []

abbrev pub req_word : List ℕ
req_word = 114 ∷ 101 ∷ 113 ∷ []

abbrev pub occ_word : List ℕ
occ_word = 111 ∷ 99 ∷ 99 ∷ []

abbrev pub held_word : List ℕ
held_word = 104 ∷ 101 ∷ 108 ∷ 100 ∷ []

abbrev pub cov_word : List ℕ
cov_word = 99 ∷ 111 ∷ 118 ∷ []

abbrev pub cond_word : List ℕ
cond_word = 99 ∷ 111 ∷ 110 ∷ 100 ∷ []

abbrev pub yes_word : List ℕ
yes_word = 121 ∷ 101 ∷ 115 ∷ []

abbrev pub no_word : List ℕ
no_word = 110 ∷ 111 ∷ []

abbrev pub unused_word : List ℕ
unused_word = 117 ∷ 110 ∷ 117 ∷ 115 ∷ 101 ∷ 100 ∷ []

abbrev pub total_word : List ℕ
total_word = 116 ∷ 111 ∷ 116 ∷ 97 ∷ 108 ∷ []

-- "`suite`: requirements, runs"
abbrev pub suite_line : ℕ → ℕ → List ℕ
suite_line requirements runs = line (suite_word ∷ decimal requirements ∷ decimal runs ∷ [])

-- "`req`: requirement, `occ` its occurrences, `held` the runs it holds of"
abbrev pub req_line : ℕ → ℕ → ℕ → List ℕ
req_line q occurrences held = line (req_word ∷ decimal q ∷ occ_word ∷ decimal occurrences ∷ held_word ∷ decimal held ∷ [])

-- "`cov`: requirement, occurrence, run, following its `req` line"
abbrev pub cov_line : ℕ → ℕ → ℕ → List ℕ
cov_line q o j = line (cov_word ∷ decimal q ∷ decimal o ∷ decimal j ∷ [])

-- "`cond`: every condition of the suite, with yes, no, or `unused` where no requirement reads it"
abbrev pub answer_by : Bool → Bool → ConditionAnswer
answer_by read covered = cond read (cond covered answer.Yes answer.No) answer.Unused

abbrev pub answer_of : Bench → ℕ → ConditionAnswer
answer_of b c = answer_by (condition_read b c) (condition_covered b c)

abbrev pub answer_word : ConditionAnswer → List ℕ
answer_word answer.Yes = yes_word
answer_word answer.No = no_word
answer_word answer.Unused = unused_word

abbrev pub cond_line : ℕ → ConditionAnswer → List ℕ
cond_line c a = line (cond_word ∷ decimal c ∷ answer_word a ∷ [])

-- "`total`: occurrences with at least one covered pair, all occurrences"
abbrev pub total_line : ℕ → ℕ → List ℕ
total_line some all = line (total_word ∷ decimal some ∷ decimal all ∷ [])

-- the `cov` lines of requirement q, by occurrence and then by run
abbrev pub cov_lines : List Row → ℕ → (ℕ → ℕ → Bool) → ℕ → List ℕ
cov_lines rows runs covers q = pairs_listed rows runs covers (cov_line q)

-- a requirement's block of lines; what a later wish prints of a requirement comes at its end
abbrev pub block_from : List Row → ℕ → (ℕ → List ℕ) → ℕ → List ℕ
block_from rows runs words q =
    req_line q (length (occurrences rows)) (held_of rows runs words) ++ cov_lines rows runs (covered_of rows words) q

abbrev pub block_of : Bench → ℕ → List ℕ
block_of b q = block_from (b.rows q) b.runs b.words q

-- the whole sheet
unfoldable pub sheet_text : Bench → List ℕ
sheet_text b =
    suite_line b.requirements b.runs
    ++ (in_order b.requirements (block_of b)
    ++ (in_order b.conditions (λ c. cond_line c (answer_of b c)) ++ total_line (mattered_count b) (all_occurrences b)))
