-- The operation `page`: what it answers and writes is unique.
-- Assumes nothing.
use mathlib.Core.Path.{◌≡◌, sym, ◌∙◌}
use mathlib.Core.List.{List}
use Prim.Native.Nat.{ℕ}
use lib.ListN.{length}
use Rattle.std.specs.Prelude.{Result}
use Rattle.figures.specs.declared.ByteCount.{ByteCount}
use Rattle.figures.specs.declared.Refusal.{Refusal}
use Rattle.figures.specs.Outputs.{output_says}
use Rattle.laws.proofs.Lent.{Answered}
use Rattle.laws.proofs.Unique.{output_unique}
use Rattle.travels.specs.Travels.{travel_page, travel_page_of}

-- what the contract allows: an answer, and the lent bytes afterwards
abbrev pub PageAllowed : List ℕ → List ℕ → Result ByteCount Refusal → List ℕ → Type 0
PageAllowed log out a after = Answered (travel_page log) out (travel_page_of log (length out)) (output_says a) after

pub pages_equal :
    (log out : List ℕ) {a b : Result ByteCount Refusal} {after after' : List ℕ} → PageAllowed log out a after → PageAllowed log out b after' →
    (a ≡ b) × (after ≡ after')
pages_equal log out h g = (output_unique h.0 g.0, h.1 ∙ sym g.1)
