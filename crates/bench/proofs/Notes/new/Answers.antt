-- `bench::Notes::new` meets its contract: no cell of the table is set.
use mathlib.Core.Path.{refl}
use Rattle.lengths.specs.Lengths.{most_requirement_rows}
use Rattle.bench.specs.declared.TheConstants.Notes.{MANY}
use Rattle.bench.proofs.Cells.{none_set}
use Rattle.bench.proofs.Notes.new.Goals as goal

pub returns : goal.returns
returns c = record { blank = none_set most_requirement_rows MANY; many = refl }
