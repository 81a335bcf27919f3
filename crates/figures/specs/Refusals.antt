-- The refusals: document 01, "Answers by number".
-- Assumes nothing.
use Rattle.std.specs.Prelude.{ℕ, Result, Ok, Err}
use Rattle.figures.specs.declared.Place.{Place}
use Rattle.figures.specs.declared.Place.TheVariants as place
use Rattle.figures.specs.declared.RowPlace.{RowPlace}
use Rattle.figures.specs.declared.RowPlace.TheVariants as row_place
use Rattle.figures.specs.declared.StepPlace.{StepPlace}
use Rattle.figures.specs.declared.StepPlace.TheVariants as step_place
use Rattle.figures.specs.declared.Refusal.{Refusal}
use Rattle.figures.specs.declared.Refusal.TheVariants.{FileBytes, Form, Counts, ContentsCut, Entry, FileEnd, TableLength, UnsoundRow, NotRequirement, RunLength, StrayBit, NoSuch, TrapRows, ShortOutput}

-- "Each refusal returns its number"
abbrev pub number_of : Refusal → ℕ
number_of FileBytes = 1
number_of Form = 2
number_of Counts = 3
number_of ContentsCut = 4
number_of (Entry p) = 5
number_of FileEnd = 6
number_of TableLength = 7
number_of (UnsoundRow p) = 8
number_of (NotRequirement p) = 9
number_of RunLength = 10
number_of (StrayBit p) = 11
number_of NoSuch = 12
number_of TrapRows = 13
number_of ShortOutput = 14

-- "In a file the place of 8 and 9 is the byte offset where the row starts; on a lone table it is the row number"
abbrev pub row_place_of : RowPlace → Place
row_place_of (row_place.Lone r) = place.Row r
row_place_of (row_place.File b) = place.Byte b

-- "the place of 11 is the byte offset where the word starts; on a lone run it is the step number"
abbrev pub step_place_of : StepPlace → Place
step_place_of (step_place.Lone i) = place.Step i
step_place_of (step_place.File b) = place.Byte b

-- "its number and a place": the last column of the table
abbrev pub place_of : Refusal → Place
place_of FileBytes = place.None
place_of Form = place.None
place_of Counts = place.None
place_of ContentsCut = place.None
place_of (Entry b) = place.Byte b
place_of FileEnd = place.None
place_of TableLength = place.None
place_of (UnsoundRow p) = row_place_of p
place_of (NotRequirement p) = row_place_of p
place_of RunLength = place.None
place_of (StrayBit p) = step_place_of p
place_of NoSuch = place.None
place_of TrapRows = place.None
place_of ShortOutput = place.None

-- "A refusal prints only `refused`, number, place": a place as a number, 0 where there is none
abbrev pub printed_place : Place → ℕ
printed_place place.None = 0
printed_place (place.Byte b) = b.0
printed_place (place.Row r) = r.0
printed_place (place.Step i) = i.0

-- What an operation answers, as document 01 has it: a refusal's number and place, or what it gives
pub data Outcome {ℓ} (A : Type ℓ) : Type ℓ where
  refused : ℕ → Place → Outcome A
  gives : A → Outcome A

abbrev pub refusal {ℓ} : {A : Type ℓ} → Refusal → Outcome A
refusal r = refused (number_of r) (place_of r)

-- "checks in order of number": the first refusal is given, and what follows it is not asked
infixr 20 ◌then◌
abbrev pub ◌then◌ {ℓ κ} : {A : Type ℓ} {B : Type κ} → Outcome A → (A → Outcome B) → Outcome B
(refused n p) then next = refused n p
(gives a) then next = next a

-- what a result says, of whose value f reads what document 01 has
abbrev pub result_says : {T A : Type 0} → (T → A) → Result T Refusal → Outcome A
result_says f (Ok t) = gives (f t)
result_says f (Err r) = refusal r

-- what a check's answer says
abbrev pub check_says : Result (Unit {0}) Refusal → Outcome (Unit {0})
check_says = result_says (λ u. tt)
