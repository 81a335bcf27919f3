-- `conditions::noted_in` meets its contract: the chain finds whether one of the rows is noted and reads the condition.
use native.Mathlib.Omega.{arith}
use mathlib.Core.Path.{◌≡◌, refl, ◌∙◌, ap}
use mathlib.Core.Bool.{Bool, ◌&&◌}
use Prim.Native.Nat.{ℕ, ◌-◌}
use Rattle.std.proofs.Common.{rules, tests}
use Rattle.std.proofs.lemmas.Iterator.{YieldsList-from_range}
use Rattle.std.proofs.lemmas.Iterator.Search.{any_from_yields_List}
use Rattle.signals.specs.Signals.{some}
use Rattle.bench.specs.Coverage.{reads_condition}
use Rattle.bench.specs.Tables.{noted}
use Rattle.bench.specs.Files.{bench_of}
use Rattle.bench.proofs.Any.{any_below}
use Rattle.conditions.proofs.noted_in.Goals as goal

pub returns : goal.returns
returns c =
    let file = c.args.requirements.file.now in
    let f : ℕ → Bool = λ p. reads_condition (bench_of file file) c.args.c.0 c.args.q.0 p && noted c.args.notes.now.cells c.args.q.0 p in
    let many = c.row_count-many.result.0 in
    let all : many - 0 ≡ many = omega arith in
    any_from_yields_List f _ _ c.any.result c.any.ensures.ran (YieldsList-from_range 0 many many refl all) (λ x b q k. search (rules, tests))
    ∙ any_below many f
    ∙ ap (λ (m : ℕ). some m 0 f) c.row_count-many.ensures.0
