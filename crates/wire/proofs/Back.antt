-- Nothing is lost in C: the fields of an answer give the operation's outcome back, a refusal with its number and place.
-- And an answer is unique.
-- Assumes nothing.
use mathlib.Core.Path.{◌≡◌, refl, sym, ◌∙◌, ap}
use mathlib.Core.Bool.{Bool, true, false, cond}
use mathlib.Core.List.{List}
use Rattle.std.specs.Prelude.{Option, None, Some}
use Prim.Native.Nat.{ℕ}
use lib.Dec.{eqb}
use Rattle.figures.specs.declared.Place.{Place}
use Rattle.figures.specs.declared.Place.TheVariants as place
use Rattle.figures.specs.Refusals.{Outcome, printed_place}
use Rattle.figures.specs.Refusals.Outcome.{refused, gives}
use Rattle.wire.specs.declared.Answer.{Answer}
use Rattle.wire.specs.Wire.{kind_refused, kind_holds, kind_covered, unit_of, truth_answer, written_answer, witness_answer, taken_answer}

-- a place from its unit and its number
abbrev place_from : ℕ → ℕ → Place
place_from unit n =
    cond (eqb unit 1) (place.Byte (record { 0 = n }))
    (cond (eqb unit 2) (place.Row (record { 0 = n })) (cond (eqb unit 3) (place.Step (record { 0 = n })) place.None))

place_back : (p : Place) → place_from (unit_of p) (printed_place p) ≡ p
place_back place.None = refl
place_back (place.Byte b) = refl
place_back (place.Row r) = refl
place_back (place.Step i) = refl

-- how a caller reads an answer: a refusal, or what it gives
abbrev pub read_as : {A : Type 0} → (Answer → A) → Answer → Outcome A
read_as given a =
    cond (eqb a.kind.0 kind_refused) (refused a.refusal.0 (place_from a.unit.0 a.place.0)) (gives (given a))

abbrev pub verdict_in : Answer → Bool
verdict_in a = eqb a.kind.0 kind_holds

abbrev pub bytes_in : Answer → ℕ
bytes_in a = a.written.0

abbrev pub witness_in : Answer → Option ℕ
witness_in a = cond (eqb a.kind.0 kind_covered) (Some (bytes_in a)) None

abbrev pub steps_in : Answer → ℕ
steps_in a = a.steps.0

pub truth_back : (o : Outcome Bool) → read_as verdict_in (truth_answer o) ≡ o
truth_back (refused n p) = ap (refused n) (place_back p)
truth_back (gives true) = refl
truth_back (gives false) = refl

pub written_back : (o : Outcome ℕ) → read_as bytes_in (written_answer o) ≡ o
written_back (refused n p) = ap (refused n) (place_back p)
written_back (gives bytes) = refl

pub witness_back : (o : Outcome (Option ℕ)) → read_as witness_in (witness_answer o) ≡ o
witness_back (refused n p) = ap (refused n) (place_back p)
witness_back (gives None) = refl
witness_back (gives (Some bytes)) = refl

pub taken_back : (o : Outcome ℕ) → read_as steps_in (taken_answer o) ≡ o
taken_back (refused n p) = ap (refused n) (place_back p)
taken_back (gives steps) = refl

-- two answers, and two contents of what was lent, that a contract of this room allows are equal: it gives both as equations
pub answers_equal :
    {says a b : Answer} {lent after after' : List ℕ} → (a ≡ says) × (after ≡ lent) → (b ≡ says) × (after' ≡ lent) →
    (a ≡ b) × (after ≡ after')
answers_equal h g = (h.0 ∙ sym g.0, h.1 ∙ sym g.1)
