-- `conditions::condition_noted` meets its contract: the chain finds whether a noted row of one of the requirements reads the condition.
use native.Mathlib.Omega.{arith}
use mathlib.Core.Path.{◌≡◌, refl, ◌∙◌}
use mathlib.Core.Bool.{Bool, ◌&&◌}
use Prim.Native.Nat.{ℕ, ◌-◌}
use lib.ListN.{length}
use Rattle.std.proofs.Common.{rules, tests}
use Rattle.std.proofs.lemmas.Iterator.{YieldsList-from_range}
use Rattle.std.proofs.lemmas.Iterator.Search.{any_from_yields_List}
use Rattle.layout.specs.Layout.{form1}
use Rattle.layout.specs.Checks.{requirement_rows_in}
use Rattle.signals.specs.Signals.{some}
use Rattle.bench.specs.Coverage.{reads_condition}
use Rattle.bench.specs.Tables.{noted}
use Rattle.bench.specs.Files.{bench_of}
use Rattle.bench.proofs.Any.{any_below}
use Rattle.conditions.proofs.condition_noted.Goals as goal

pub returns : goal.returns
returns c =
    let file = c.args.requirements.file.now in
    let f : ℕ → Bool = λ q. some (length (requirement_rows_in form1 file q)) 0 (λ p. reads_condition (bench_of file file) c.args.c.0 q p && noted c.args.notes.now.cells q p) in
    let many = c.args.requirements.many.0 in
    let all : many - 0 ≡ many = omega arith in
    any_from_yields_List f _ _ c.any.result c.any.ensures.ran (YieldsList-from_range 0 many many refl all) (λ x b q k. search (rules, tests))
    ∙ any_below many f
