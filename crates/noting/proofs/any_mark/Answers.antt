-- `noting::any_mark` meets its contract: the marks of row p stand together, and what `any` finds there is whether some run's is set.
use native.Mathlib.Omega.{arith}
use mathlib.Core.Path.{◌≡◌, ◌∙◌}
use Prim.Native.Nat.{◌+◌, ◌-◌, ◌*◌}
use lib.ListN.{take, drop}
use Rattle.std.proofs.Common.{rules, tests}
use Rattle.std.proofs.lemmas.Iterator.{YieldsList-from_slice}
use Rattle.std.proofs.lemmas.Iterator.Search.{any_from_yields_List}
use Rattle.limits.specs.Limits.{most_runs}
use Rattle.bench.proofs.Any.{any_part}
use Rattle.noting.proofs.any_mark.Goals as goal

pub returns : goal.returns
returns c =
    let marks = c.args.marks.now.cells in
    let row = most_runs * c.args.p.0 in
    let runs = c.args.runs.0 in
    let many : row + runs - row ≡ runs = omega arith in
    let part = rw many at c.iter.ensures.rest in
    any_from_yields_List (λ b. b) _ _ c.any.result c.any.ensures.ran (YieldsList-from_slice (take runs (drop row marks)) part) (λ x b q k. search (rules, tests))
    ∙ any_part marks row runs (omega arith)
