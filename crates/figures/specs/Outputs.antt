-- What an operation that writes answers, and the lent bytes afterwards: document 01, "Answers by number".
-- Assumes nothing.
use Rattle.std.specs.Prelude.{List, ◌++◌, ℕ, drop, Result}
use Rattle.figures.specs.declared.ByteCount.{ByteCount}
use Rattle.figures.specs.declared.Refusal.{Refusal}
use Rattle.figures.specs.Refusals.{Outcome, result_says}
use Rattle.figures.specs.Refusals.Outcome.{refused, gives}

-- "An operation that writes also returns how many bytes it wrote": what its answer says
abbrev pub output_says : Result ByteCount Refusal → Outcome ℕ
output_says = result_says (λ bytes. bytes.0)

-- the lent bytes afterwards: "bytes past those are unchanged", and a refusal "changes no lent byte"
abbrev pub lent_after : Outcome ℕ → List ℕ → List ℕ → List ℕ
lent_after (refused n p) bytes out = out
lent_after (gives n) bytes out = bytes ++ drop n out
