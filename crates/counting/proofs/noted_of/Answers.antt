-- `counting::noted_of` meets its contract: the chain counts the rows that are noted.
use native.Mathlib.Omega.{arith}
use mathlib.Core.Path.{◌≡◌, refl}
use Prim.Native.Nat.{◌-◌}
use Rattle.std.proofs.Common.{rules, tests}
use Rattle.std.proofs.lemmas.Iterator.{YieldsList-from_range}
use Rattle.std.proofs.lemmas.Iterator.Consumers.{YieldsList-at, YieldsList-from_filter, count_from_yields_List}
use Rattle.bench.specs.Tables.{noted}
use Rattle.counting.proofs.Chosen.{counted}
use Rattle.counting.proofs.noted_of.Goals as goal

pub returns : goal.returns
returns c =
    let f = noted c.args.notes.now.cells c.args.q.0 in
    let many = c.row_count-many.result.0 in
    let all : many - 0 ≡ many = omega arith in
    counted f
    (count_from_yields_List _ _ c.count.ensures.ran
    (YieldsList-from_filter _ f
    (YieldsList-at c.filter.ensures.source (YieldsList-from_range 0 many many refl all))
    c.filter.ensures.closure (λ x b q k. search (rules, tests))))
    c.row_count-many.ensures
