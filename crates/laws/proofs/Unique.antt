-- Uniqueness: an answer is determined by what it says, so two answers that a contract allows are equal.
-- Assumes nothing.
use mathlib.Core.Path.{◌≡◌, refl, sym, ◌∙◌, ap}
use mathlib.Core.List.{[], ◌∷◌}
use Prim.Native.Nat.{ℕ}
use lib.ListN.{get_or}
use Rattle.figures.specs.declared.ByteOffset.{ByteOffset}
use Rattle.figures.specs.declared.Place.{Place}
use Rattle.figures.specs.declared.Place.TheVariants as place
use Rattle.figures.specs.declared.RowPlace.{RowPlace}
use Rattle.figures.specs.declared.RowPlace.TheVariants as row_place
use Rattle.figures.specs.declared.StepPlace.{StepPlace}
use Rattle.figures.specs.declared.StepPlace.TheVariants as step_place
use Rattle.figures.specs.declared.Refusal.{Refusal}
use Rattle.figures.specs.declared.Refusal.TheVariants.{FileBytes, Form, Counts, ContentsCut, Entry, FileEnd, TableLength, UnsoundRow, NotRequirement, RunLength, StrayBit, NoSuch, TrapRows, ShortOutput}
use Rattle.limits.specs.declared.Suite.{Suite}
use Rattle.std.specs.Prelude.{Result, Ok, Err}
use Rattle.figures.specs.declared.ByteCount.{ByteCount}
use Rattle.lengths.specs.declared.Rows.{Rows}
use Rattle.lengths.specs.declared.Run.{Run}
use Rattle.figures.specs.Outputs.{output_says}
use Rattle.figures.specs.Refusals.{number_of, place_of, Outcome, refusal, result_says, check_says}
use Rattle.figures.specs.Refusals.Outcome.{refused, gives}
use Rattle.limits.specs.Limits.{suite_says}
use Rattle.lengths.specs.Lengths.{rows_say, run_says, most_table_rows, most_requirement_rows}

-- two answers that say the same are equal, if what is said can be read back
pub one_answer :
    {A B : Type 0} (says : A → B) (back : B → A) → ((a : A) → back (says a) ≡ a) → {a b : A} {o : B} → says a ≡ o → says b ≡ o → a ≡ b
one_answer says back read {a} {b} p q = sym (read a) ∙ ap back (p ∙ sym q) ∙ read b

-- a refusal from its number and place
abbrev byte_from : Place → ByteOffset
byte_from place.None = record { 0 = 0 }
byte_from (place.Byte b) = b
byte_from (place.Row r) = record { 0 = 0 }
byte_from (place.Step i) = record { 0 = 0 }

abbrev row_from : Place → RowPlace
row_from place.None = row_place.File (record { 0 = 0 })
row_from (place.Byte b) = row_place.File b
row_from (place.Row r) = row_place.Lone r
row_from (place.Step i) = row_place.File (record { 0 = 0 })

abbrev step_from : Place → StepPlace
step_from place.None = step_place.File (record { 0 = 0 })
step_from (place.Byte b) = step_place.File b
step_from (place.Row r) = step_place.File (record { 0 = 0 })
step_from (place.Step i) = step_place.Lone i

abbrev pub refusal_from : ℕ → Place → Refusal
refusal_from n p =
    get_or
    (Form ∷ FileBytes ∷ Form ∷ Counts ∷ ContentsCut ∷ Entry (byte_from p) ∷ FileEnd ∷ TableLength ∷ UnsoundRow (row_from p) ∷
    NotRequirement (row_from p) ∷ RunLength ∷ StrayBit (step_from p) ∷ NoSuch ∷ TrapRows ∷ ShortOutput ∷ [])
    n Form

pub refusal_read : (r : Refusal) → refusal_from (number_of r) (place_of r) ≡ r
refusal_read FileBytes = refl
refusal_read Form = refl
refusal_read Counts = refl
refusal_read ContentsCut = refl
refusal_read (Entry b) = refl
refusal_read FileEnd = refl
refusal_read TableLength = refl
refusal_read (UnsoundRow (row_place.Lone r)) = refl
refusal_read (UnsoundRow (row_place.File b)) = refl
refusal_read (NotRequirement (row_place.Lone r)) = refl
refusal_read (NotRequirement (row_place.File b)) = refl
refusal_read RunLength = refl
refusal_read (StrayBit (step_place.Lone i)) = refl
refusal_read (StrayBit (step_place.File b)) = refl
refusal_read NoSuch = refl
refusal_read TrapRows = refl
refusal_read ShortOutput = refl

-- an answer that is a value made of what is given, or a refusal: what is said can be read back
module _ {A B : Type 0} (made : A → B) (no : Refusal → B) where
  abbrev pub read_back : Outcome A → B
  read_back (refused n p) = no (refusal_from n p)
  read_back (gives a) = made a

  pub read_refusal : (r : Refusal) → read_back (refusal r) ≡ no r
  read_refusal r = ap no (refusal_read r)

  pub unique : (says : B → Outcome A) → ((b : B) → read_back (says b) ≡ b) → {a b : B} {o : Outcome A} → says a ≡ o → says b ≡ o → a ≡ b
  unique says read = one_answer says read_back read

-- a result, whose value can be read back from what f reads of it
pub result_unique :
    {T A : Type 0} (f : T → A) (back : A → T) → ((t : T) → back (f t) ≡ t) → {a b : Result T Refusal} {o : Outcome A} →
    result_says f a ≡ o → result_says f b ≡ o → a ≡ b
result_unique {T} {A} f back read = unique made Err (result_says f) go
  where
    made : A → Result T Refusal
    made a = Ok (back a)

    go : (r : Result T Refusal) → read_back made Err (result_says f r) ≡ r
    go (Ok t) = ap Ok (read t)
    go (Err r) = read_refusal made Err r

pub suite_unique : {a b : Result Suite Refusal} {o : Outcome Suite} → suite_says a ≡ o → suite_says b ≡ o → a ≡ b
suite_unique = result_unique (λ s. s) (λ s. s) (λ s. refl)

pub rows_unique : {most : ℕ} {a b : Result (Rows most) Refusal} {o : Outcome ℕ} → rows_say a ≡ o → rows_say b ≡ o → a ≡ b
rows_unique = result_unique (λ t. t.0.0) (λ n. record { 0 = record { 0 = n } }) (λ t. refl)

pub table_unique : {a b : Result (Rows most_table_rows) Refusal} {o : Outcome ℕ} → rows_say a ≡ o → rows_say b ≡ o → a ≡ b
table_unique = rows_unique

pub requirement_unique : {a b : Result (Rows most_requirement_rows) Refusal} {o : Outcome ℕ} → rows_say a ≡ o → rows_say b ≡ o → a ≡ b
requirement_unique = rows_unique

pub run_unique : {a b : Result Run Refusal} {o : Outcome ℕ} → run_says a ≡ o → run_says b ≡ o → a ≡ b
run_unique = result_unique (λ n. n.0.0) (λ n. record { 0 = record { 0 = n } }) (λ n. refl)

pub check_unique : {a b : Result (Unit {0}) Refusal} {o : Outcome (Unit {0})} → check_says a ≡ o → check_says b ≡ o → a ≡ b
check_unique = result_unique (λ u. tt) (λ u. tt) (λ u. refl)

pub output_unique : {a b : Result ByteCount Refusal} {o : Outcome ℕ} → output_says a ≡ o → output_says b ≡ o → a ≡ b
output_unique = result_unique (λ bytes. bytes.0) (λ n. record { 0 = n }) (λ bytes. refl)
