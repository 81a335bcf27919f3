-- A log's answers are determined by what they say, so two answers that a contract allows are equal.
-- Assumes nothing.
use mathlib.Core.Path.{◌≡◌, refl, ap}
use mathlib.Core.Bool.{cond, So}
use Rattle.std.specs.Prelude.{Option, None, Some, Result, Ok, Err}
use Prim.Native.Nat.{ℕ}
use native.Mathlib.Omega.{arith}
use borrow.Author.Tests.{leb-true, ne_eqb}
use lib.Dec.{leb, eqb}
use Rattle.figures.specs.declared.Place.{Place}
use Rattle.figures.specs.declared.Refusal.{Refusal}
use Rattle.figures.specs.declared.StepCount.{StepCount}
use Rattle.figures.specs.declared.StepNumber.{StepNumber}
use Rattle.figures.specs.declared.Refusal.TheVariants.{FileBytes, Form, Counts, ContentsCut, Entry, FileEnd, TableLength, UnsoundRow, NotRequirement, RunLength, StrayBit, NoSuch, TrapRows, ShortOutput}
use Rattle.figures.specs.Refusals.{number_of, printed_place, Outcome}
use Rattle.figures.specs.Refusals.Outcome.{refused, gives}
use Rattle.laws.proofs.Unique.{one_answer, refusal_from, refusal_read}
use Rattle.logs.specs.declared.LogRefusal.{LogRefusal}
use Rattle.logs.specs.declared.LogRefusal.TheVariants.{Listed, HalfTurn}
use Rattle.logs.specs.LogRefusals.{log_number, log_place, log_says, step_says}

-- document 01's numbers end with 14
listed : (r : Refusal) → So (leb (number_of r) 14)
listed FileBytes = refl
listed Form = refl
listed Counts = refl
listed ContentsCut = refl
listed (Entry b) = refl
listed FileEnd = refl
listed TableLength = refl
listed (UnsoundRow p) = refl
listed (NotRequirement p) = refl
listed RunLength = refl
listed (StrayBit p) = refl
listed NoSuch = refl
listed TrapRows = refl
listed ShortOutput = refl

-- a refusal from its number and place
abbrev pub log_refusal_from : ℕ → Place → LogRefusal
log_refusal_from n p = cond (eqb n 17) (HalfTurn (record { 0 = printed_place p })) (Listed (refusal_from n p))

pub log_refusal_read : (r : LogRefusal) → log_refusal_from (log_number r) (log_place r) ≡ r
log_refusal_read (HalfTurn i) = refl
log_refusal_read (Listed r) =
    let h = leb-true (number_of r) 14 (listed r) in
    rw (ne_eqb (number_of r) 17 (λ e. omega arith)) (ap Listed (refusal_read r))

pub log_unique : {a b : Result StepCount LogRefusal} {o : Outcome ℕ} → log_says a ≡ o → log_says b ≡ o → a ≡ b
log_unique = one_answer log_says back read
  where
    back : Outcome ℕ → Result StepCount LogRefusal
    back (refused n p) = Err (log_refusal_from n p)
    back (gives n) = Ok (record { 0 = n })

    read : (a : Result StepCount LogRefusal) → back (log_says a) ≡ a
    read (Ok n) = refl
    read (Err r) = ap Err (log_refusal_read r)

pub step_unique : {a b : Option StepNumber} {o : Option ℕ} → step_says a ≡ o → step_says b ≡ o → a ≡ b
step_unique = one_answer step_says back read
  where
    back : Option ℕ → Option StepNumber
    back None = None
    back (Some k) = Some (record { 0 = k })

    read : (a : Option StepNumber) → back (step_says a) ≡ a
    read (Some k) = refl
    read None = refl
