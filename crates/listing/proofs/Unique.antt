-- The operation `list`: what it answers and writes is unique.
-- Assumes nothing.
use mathlib.Core.Path.{◌≡◌, sym, ◌∙◌}
use mathlib.Core.List.{List}
use Prim.Native.Nat.{ℕ}
use lib.ListN.{length}
use Rattle.laws.proofs.Unique.{output_unique}
use Rattle.std.specs.Prelude.{Result}
use Rattle.figures.specs.declared.ByteCount.{ByteCount}
use Rattle.figures.specs.declared.Refusal.{Refusal}
use Rattle.figures.specs.Outputs.{output_says}
use Rattle.listing.specs.Answers.{list_of, listed}
use Rattle.laws.proofs.Lent.{Answered}

-- what the contract of `list` allows: an answer, and the lent bytes afterwards
abbrev pub Allowed : List ℕ → ℕ → List ℕ → Result ByteCount Refusal → List ℕ → Type 0
Allowed file q out a after = Answered (listed file q) out (list_of file q (length out)) (output_says a) after

pub lists_equal :
    (file : List ℕ) (q : ℕ) (out : List ℕ) {a b : Result ByteCount Refusal} {after after' : List ℕ} → Allowed file q out a after → Allowed file q out b after' →
    (a ≡ b) × (after ≡ after')
lists_equal file q out h g = (output_unique h.0 g.0, h.1 ∙ sym g.1)
