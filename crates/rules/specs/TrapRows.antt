-- The trap table of an occurrence: document 01, "Trap rows".
-- Assumes nothing.
use Rattle.std.specs.Prelude.{Bool, true, false, cond, ◌||◌, List, [], ◌∷◌, ◌++◌, ℕ, suc, ◌+◌, eqb, length}
use Rattle.rows.specs.declared.Kind.{Kind}
use Rattle.rows.specs.Rows.{Row, row, kind, first, second, named}
use Rattle.rows.specs.declared.Kind.TheVariants.{False, True, Condition, Not, And, Or, StrongNext, WeakNext, Until, Release, Finally, Globally, WeakUntil, Unknown}

-- the rows that are added, by their kind
abbrev pub not_row : ℕ → Row
not_row a = row 3 a 0

abbrev pub and_row : ℕ → ℕ → Row
and_row a b = row 4 a b

abbrev pub or_row : ℕ → ℕ → Row
or_row a b = row 5 a b

abbrev pub strong_next_row : ℕ → Row
strong_next_row a = row 6 a 0

abbrev pub until_row : ℕ → ℕ → Row
until_row a b = row 8 a b

abbrev pub release_row : ℕ → ℕ → Row
release_row a b = row 9 a b

abbrev pub finally_row : ℕ → Row
finally_row a = row 10 a 0

abbrev pub globally_row : ℕ → Row
globally_row a = row 11 a 0

-- the side of s on which its child c stands
pub data Side : Type 0 where
  Left Right : Side

-- "s a row on the way, c its child on that way, t the row that is c's trap, o the other child"; z is the first free row
abbrev pub Rule : Type 0
Rule = Kind → Side → ℕ → ℕ → ℕ → ℕ → ℕ → List Row

-- "Each row above adds, in this order": a line for each line of the table
abbrev pub added : Rule
added And side s c o t z = and_row t o ∷ []
added Or side s c o t z = not_row o ∷ and_row t z ∷ []
added StrongNext side s c o t z = strong_next_row t ∷ []
added WeakNext side s c o t z = strong_next_row t ∷ []
added Until Right s c o t z = not_row o ∷ not_row c ∷ or_row (z + 1) t ∷ release_row z (z + 2) ∷ and_row s (z + 3) ∷ []
added Until Left s c o t z = not_row o ∷ and_row t z ∷ until_row z (z + 1) ∷ and_row s (z + 2) ∷ []
added Release Left s c o t z = not_row c ∷ or_row z t ∷ not_row o ∷ until_row (z + 1) (z + 2) ∷ and_row s (z + 3) ∷ []
added Release Right s c o t z = not_row o ∷ until_row z t ∷ and_row s (z + 1) ∷ []
added Finally side s c o t z = not_row c ∷ or_row z t ∷ globally_row (z + 1) ∷ and_row s (z + 2) ∷ []
added Globally side s c o t z = finally_row t ∷ and_row s z ∷ []
added WeakUntil Right s c o t z =
    not_row c ∷ or_row z t ∷ not_row o ∷ and_row (z + 2) (z + 1) ∷ until_row (z + 1) (z + 3) ∷ and_row s (z + 4) ∷ []
added WeakUntil Left s c o t z = not_row o ∷ and_row z t ∷ until_row z (z + 1) ∷ and_row s (z + 2) ∷ []
added Not side s c o t z = []
added Condition side s c o t z = []
added False side s c o t z = []
added True side s c o t z = []
added Unknown side s c o t z = []

-- how many rows are added, whatever their numbers
abbrev pub added_count : Kind → Side → ℕ
added_count kind side = length (added kind side 0 0 0 0 0)

-- "the last row added is its trap"; "if 'not' stands over it, t is the 'not' row and the way starts there": "not" adds no row
abbrev pub trap_of : List Row → ℕ → ℕ → ℕ
trap_of [] s z = s
trap_of (r ∷ rs) s z = z + length rs

-- the way so far: the row in hand, the row that is its trap, and the rows added
pub record Way : Type 0 where
  pub at : ℕ
  pub trap : ℕ
  pub rows : List Row

abbrev pub has : ℕ → List ℕ → Bool
has k [] = false
has k (x ∷ xs) = eqb k x || has k xs

abbrev pub side_of : Bool → Side
side_of true = Left
side_of false = Right

-- row s names the row in hand: it is the next one on the way. n is the number of copied rows
abbrev pub up_to : Rule → ℕ → ℕ → Row → Way → Way
up_to rule n s r w =
    let left = eqb (first r) w.at in
    let new = rule (kind r) (side_of left) s w.at (cond left (second r) (first r)) w.trap (n + length w.rows) in
    record { at = s; trap = trap_of new s (n + length w.rows); rows = w.rows ++ new }

-- the way through the rows from s on, in ascending order
unfoldable pub climb : Rule → ℕ → ℕ → List Row → Way → Way
climb rule n s [] w = w
climb rule n s (r ∷ rs) w = climb rule n (suc s) rs (cond (has w.at (named r)) (up_to rule n s r w) w)

-- the way from the occurrence at row p up to the last row
unfoldable pub way : Rule → List Row → ℕ → Way
way rule rows p = climb rule (length rows) 0 rows (record { at = p; trap = p; rows = [] })

-- "The trap table starts with the requirement's own rows; the added rows go straight after the copied ones"
abbrev pub trap_table : List Row → ℕ → List Row
trap_table rows p = rows ++ (way added rows p).rows
