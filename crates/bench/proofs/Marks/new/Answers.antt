-- `bench::Marks::new` meets its contract: no cell of the table is set.
use mathlib.Core.Path.{refl}
use Rattle.limits.specs.Limits.{most_runs}
use Rattle.bench.specs.declared.TheConstants.Marks.{MANY}
use Rattle.bench.proofs.Cells.{none_set}
use Rattle.bench.proofs.Marks.new.Goals as goal

pub returns : goal.returns
returns c = record { unmarked = none_set most_runs MANY; many = refl }
