-- The checks behind refusals 8 and 9, and the occurrences of a requirement.
-- Assumes nothing.
use Rattle.std.specs.Prelude.{◌≡◌, Result, Some, None, Bool, false, not, cond, ◌&&◌, ◌||◌, List, [], ◌∷◌, ℕ, zero, suc, ◌+◌, ◌<◌, ltb, eqb, length}
use Rattle.std.proofs.Math.Bool.{So}
use Rattle.std.specs.Prelude.{slice_get, Option, None, Some}
use Rattle.figures.specs.declared.RowPlace.{RowPlace}
use Rattle.figures.specs.declared.RowPlace.TheVariants as row_place
use Rattle.figures.specs.declared.RowNumber.{RowNumber}
use Rattle.figures.specs.declared.Refusal.{Refusal}
use Rattle.figures.specs.declared.Refusal.TheVariants.{UnsoundRow, NotRequirement, NoSuch}
use Rattle.figures.specs.Refusals.{Outcome, refusal, result_says, ◌then◌}
use Rattle.figures.specs.Refusals.Outcome.{gives}
use Rattle.limits.specs.Limits.{suite_of}
use Rattle.lengths.specs.Lengths.{rows_of, most_table_rows, most_requirement_rows}
use Rattle.figures.specs.Numbers.{below, lowest, refused_at}
use Rattle.rows.specs.declared.Fields.{Fields}
use Rattle.rows.specs.declared.Fields.TheVariants as fields
use Rattle.rows.specs.Rows.{Row, kind_number, kind, first, second, row_at, fields_of, named}

-- "A row may name only lower rows", a field that is not used is 0, a condition is one of the suite
abbrev pub fields_sound : Fields → ℕ → ℕ → ℕ → ℕ → Bool
fields_sound fields.Neither conditions r a b = eqb a 0 && eqb b 0
fields_sound fields.Condition conditions r a b = ltb a conditions && eqb b 0
fields_sound fields.OneRow conditions r a b = ltb a r && eqb b 0
fields_sound fields.TwoRows conditions r a b = ltb a r && ltb b r
fields_sound fields.Unknown conditions r a b = false

-- 8, "unknown kind, reference not lower, unused field not 0, condition not in the suite": what a row must not be
abbrev pub row_sound : ℕ → ℕ → Row → Bool
row_sound conditions r row = fields_sound (fields_of (kind row)) conditions r (first row) (second row)

-- the lowest unsound row
abbrev pub lowest_unsound : ℕ → List Row → Option ℕ
lowest_unsound conditions rows = lowest (length rows) 0 (λ r. row_sound conditions r (row_at rows r))

-- how often k stands in a list
abbrev pub times : ℕ → List ℕ → ℕ
times k [] = 0
times k (x ∷ xs) = cond (eqb k x) 1 0 + times k xs

-- how often the rows below m name row k
unfoldable pub namings : List Row → ℕ → ℕ → ℕ
namings rows k zero = 0
namings rows k (suc m) = namings rows k m + times k (named (row_at rows m))

-- kind 2 is a condition, kind 3 is "not"
abbrev pub is_condition : Row → Bool
is_condition r = eqb (kind_number r) 2

abbrev pub condition_at : List Row → ℕ → Bool
condition_at rows r = is_condition (row_at rows r)

abbrev pub is_not : Row → Bool
is_not r = eqb (kind_number r) 3

-- "every row but the last is named exactly once"
abbrev pub named_once : List Row → ℕ → Bool
named_once rows r = not (ltb (suc r) (length rows)) || eqb (namings rows r (length rows)) 1

-- "'not' stands only over a condition"
abbrev pub not_over_condition : List Row → ℕ → Bool
not_over_condition rows r = not (is_not (row_at rows r)) || is_condition (row_at rows (first (row_at rows r)))

-- 9, "a requirement's row, not the last, not named once, or 'not' over another kind": the lowest such row
abbrev pub lowest_unrequired : List Row → Option ℕ
lowest_unrequired rows = lowest (length rows) 0 (λ r. named_once rows r && not_over_condition rows r)

-- each of a list of numbers
abbrev pub All : (ℕ → Type 0) → List ℕ → Type 0
All P [] = Unit {0}
All P (k ∷ ks) = P k × All P ks

-- a requirement in plain logic: rows that name lower rows, each but the last named once, "not" over conditions alone
pub record IsRequirement (rows : List Row) : Type 0 where
  pub lower : (r : ℕ) → r < length rows → All (λ k. k < r) (named (row_at rows r))
  pub once : (k : ℕ) → suc k < length rows → namings rows k (length rows) ≡ 1
  pub not_over : (r : ℕ) → r < length rows → So (is_not (row_at rows r)) → So (is_condition (row_at rows (first (row_at rows r))))

-- "Occurrences of a requirement are its condition rows by ascending row number"
abbrev pub occurrences : List Row → List ℕ
occurrences rows = below (length rows) (condition_at rows)

abbrev pub lone_row : ℕ → RowPlace
lone_row r = row_place.Lone (record { 0 = r })

-- 8 and 9 on a lone table, at the row's number
abbrev pub rows_checked : ℕ → List Row → Outcome (Unit {0})
rows_checked conditions rows = refused_at (λ r. UnsoundRow (lone_row r)) (lowest_unsound conditions rows)

abbrev pub requirement_checked : List Row → Outcome (Unit {0})
requirement_checked rows = refused_at (λ r. NotRequirement (lone_row r)) (lowest_unrequired rows)

-- 8 over all rows before 9
abbrev pub requirement_rows : ℕ → List Row → Outcome (Unit {0})
requirement_rows conditions rows = rows_checked conditions rows then λ _. requirement_checked rows

-- 12, "no such occurrence"; else its row
abbrev pub occurrence_at : Option ℕ → Outcome ℕ
occurrence_at None = refusal NoSuch
occurrence_at (Some r) = gives r

abbrev pub occurrence_of : List Row → ℕ → Outcome ℕ
occurrence_of rows k = occurrence_at (slice_get (occurrences rows) k)

-- 3 and 7 on a lone table of so many bytes, which may have so many rows
abbrev pub sized : ℕ → ℕ → ℕ → Outcome (Unit {0})
sized most conditions bytes = suite_of conditions 1 1 then λ _. rows_of most bytes then λ _. gives tt

-- on a lone formula table, and on a lone requirement
abbrev pub table_sized : ℕ → ℕ → Outcome (Unit {0})
table_sized = sized most_table_rows

abbrev pub requirement_sized : ℕ → ℕ → Outcome (Unit {0})
requirement_sized = sized most_requirement_rows

-- what a search for a row found
abbrev pub found_row : Option RowNumber → Option ℕ
found_row (Some r) = Some r.0
found_row None = None

-- what asking for an occurrence's row answers
abbrev pub occurrence_says : Result RowNumber Refusal → Outcome ℕ
occurrence_says = result_says (λ r. r.0)
