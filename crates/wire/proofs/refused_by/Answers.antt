-- `wire::refused_by` meets its contract: number, unit and place are those of the refusal.
use mathlib.Core.Path.{◌≡◌}
use Prim.Native.Nat.{ℕ}
use Rattle.figures.specs.declared.Place.{Place}
use Rattle.figures.specs.Refusals.{printed_place}
use Rattle.wire.specs.Wire.{kind_refused, unit_of, answer_of, refused_answer}
use Rattle.wire.proofs.refused_by.Goals as goal

-- the answer from what its parts are known to be
made : (n : ℕ) {unit at : ℕ} (p : Place) → unit ≡ unit_of p → at ≡ printed_place p → answer_of kind_refused unit n at 0 0 ≡ refused_answer n p
made n p unit at = cc

pub returns : goal.returns
returns c = made _ c.args.at c.unit_of-unit.ensures c.printed-place.ensures
