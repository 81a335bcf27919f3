-- Formula rows and what they name: document 01, "Formula rows".
-- Assumes nothing.
use Rattle.std.specs.Prelude.{List, [], ◌∷◌, ℕ, get_or}
use Rattle.rows.specs.declared.Kind.{Kind}
use Rattle.rows.specs.declared.Kind.TheVariants.{False, True, Condition, Not, And, Or, StrongNext, WeakNext, Until, Release, Finally, Globally, WeakUntil, Unknown}
use Rattle.rows.specs.declared.Fields.{Fields}
use Rattle.rows.specs.declared.Fields.TheVariants as fields

-- "Kinds 0 to 12 are the only kinds"
abbrev pub kinds : List Kind
kinds =
    False ∷ True ∷ Condition ∷ Not ∷ And ∷ Or ∷ StrongNext ∷ WeakNext ∷ Until ∷ Release ∷ Finally ∷ Globally ∷ WeakUntil ∷ []

abbrev pub kind_of : ℕ → Kind
kind_of k = get_or kinds k Unknown

-- "kind, first, second"
abbrev pub Row : Type 0
Row = List ℕ

abbrev pub row : ℕ → ℕ → ℕ → Row
row k a b = k ∷ a ∷ b ∷ []

abbrev pub kind_number : Row → ℕ
kind_number r = get_or r 0 0

abbrev pub kind : Row → Kind
kind r = kind_of (kind_number r)

abbrev pub first : Row → ℕ
first r = get_or r 1 0

abbrev pub second : Row → ℕ
second r = get_or r 2 0

abbrev pub row_at : List Row → ℕ → Row
row_at rows r = get_or rows r []

-- the table's column "Fields"
abbrev pub fields_of : Kind → Fields
fields_of False = fields.Neither
fields_of True = fields.Neither
fields_of Condition = fields.Condition
fields_of Not = fields.OneRow
fields_of And = fields.TwoRows
fields_of Or = fields.TwoRows
fields_of StrongNext = fields.OneRow
fields_of WeakNext = fields.OneRow
fields_of Until = fields.TwoRows
fields_of Release = fields.TwoRows
fields_of Finally = fields.OneRow
fields_of Globally = fields.OneRow
fields_of WeakUntil = fields.TwoRows
fields_of Unknown = fields.Unknown

-- the rows that a row's fields name
abbrev pub named_by : Fields → ℕ → ℕ → List ℕ
named_by fields.Neither a b = []
named_by fields.Condition a b = []
named_by fields.OneRow a b = a ∷ []
named_by fields.TwoRows a b = a ∷ b ∷ []
named_by fields.Unknown a b = []

abbrev pub named : Row → List ℕ
named r = named_by (fields_of (kind r)) (first r) (second r)
