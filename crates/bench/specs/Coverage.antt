-- What the list and the sheet count: sets of runs, occurrences and pairs, from truth and coverage. Document 01, "Coverage" and "The bench sheet, whole".
-- Assumes nothing.
use Rattle.std.specs.Prelude.{Bool, cond, ◌&&◌, List, [], ◌∷◌, ℕ, zero, suc, ◌+◌, eqb, length, get_or}
use Rattle.figures.specs.Numbers.{below}
use Rattle.lines.specs.Texts.{in_order}
use Rattle.rows.specs.Rows.{Row, first, row_at}
use Rattle.rows.specs.Checks.{condition_at, occurrences}
use Rattle.signals.specs.Signals.{some}
use Rattle.signals.specs.Truth.{reads_of, holds}
use Rattle.coverage.specs.Coverage.{covered}

-- what is judged: conditions; requirements, each as rows; runs, each as words. The runs may stand in another file than the requirements
pub record Bench : Type 0 where
  pub conditions : ℕ
  pub requirements : ℕ
  pub rows : ℕ → List Row
  pub runs : ℕ
  pub words : ℕ → List ℕ

-- the size of a set: how many numbers below m have a property
abbrev pub size : ℕ → (ℕ → Bool) → ℕ
size m f = length (below m f)

-- the sum of f over the numbers below m
unfoldable pub sum : ℕ → (ℕ → ℕ) → ℕ
sum zero f = 0
sum (suc m) f = sum m f + f m

-- of one requirement: the pair of the occurrence in row p and run j is covered
abbrev pub covered_of : List Row → (ℕ → List ℕ) → ℕ → ℕ → Bool
covered_of rows words p j = covered rows (reads_of rows (words j)) (length (words j)) p

-- "`held` the runs it holds of": how many
abbrev pub held_of : List Row → ℕ → (ℕ → List ℕ) → ℕ
held_of rows runs words = size runs (λ j. holds rows (words j))

-- the pair of the occurrence in row p of requirement q and run j is covered
abbrev pub pair_covered : Bench → ℕ → ℕ → ℕ → Bool
pair_covered b q = covered_of (b.rows q) b.words

-- how many occurrences a requirement has, and the row of occurrence o
abbrev pub occurrence_count : Bench → ℕ → ℕ
occurrence_count b q = length (occurrences (b.rows q))

abbrev pub row_of_occurrence : List Row → ℕ → ℕ
row_of_occurrence rows o = get_or (occurrences rows) o 0

-- an occurrence "with at least one covered pair"
abbrev pub mattered_of : List Row → ℕ → (ℕ → List ℕ) → ℕ → Bool
mattered_of rows runs words p = condition_at rows p && some runs 0 (covered_of rows words p)

abbrev pub mattered : Bench → ℕ → ℕ → Bool
mattered b q = mattered_of (b.rows q) b.runs b.words

-- "`total`: occurrences with at least one covered pair, all occurrences"
abbrev pub mattered_count : Bench → ℕ
mattered_count b = sum b.requirements (λ q. size (length (b.rows q)) (mattered b q))

abbrev pub all_occurrences : Bench → ℕ
all_occurrences b = sum b.requirements (occurrence_count b)

-- row p of requirement q is an occurrence that reads condition c
abbrev pub reads_condition : Bench → ℕ → ℕ → ℕ → Bool
reads_condition b c q p = condition_at (b.rows q) p && eqb (first (row_at (b.rows q) p)) c

-- "`unused` where no requirement reads it"
abbrev pub condition_read : Bench → ℕ → Bool
condition_read b c = some b.requirements 0 (λ q. some (length (b.rows q)) 0 (reads_condition b c q))

-- "A condition is covered when at least one of its occurrences, in any requirement, is in a covered pair"
abbrev pub condition_covered : Bench → ℕ → Bool
condition_covered b c = some b.requirements 0 (λ q. some (length (b.rows q)) 0 (λ p. reads_condition b c q p && mattered b q p))

-- "The list for one requirement is two bytes a pair: occurrence, run", by occurrence and then by run; `covers` by the occurrence's row
abbrev pub pairs_listed : List Row → ℕ → (ℕ → ℕ → Bool) → (ℕ → ℕ → List ℕ) → List ℕ
pairs_listed rows runs covers says =
    in_order (length (occurrences rows)) (λ o. in_order runs (λ j. cond (covers (row_of_occurrence rows o) j) (says o j) []))

abbrev pub pair_bytes : ℕ → ℕ → List ℕ
pair_bytes o j = o ∷ j ∷ []

abbrev pub list_bytes : Bench → ℕ → List ℕ
list_bytes b q = pairs_listed (b.rows q) b.runs (pair_covered b q) pair_bytes
