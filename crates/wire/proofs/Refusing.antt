-- A refusal's answer, from what its number and its place are known to be.
-- Assumes nothing.
use mathlib.Core.Path.{◌≡◌}
use Prim.Native.Nat.{ℕ}
use Rattle.figures.specs.declared.Place.{Place}
use Rattle.wire.specs.declared.Answer.{Answer}
use Rattle.wire.specs.Wire.{refused_answer}

pub refused_as :
    {a : Answer} {n number : ℕ} {p place : Place} → a ≡ refused_answer number place → number ≡ n → place ≡ p → a ≡ refused_answer n p
refused_as answer number place = cc
