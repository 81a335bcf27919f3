-- The parts that a reader finds in a suite file, and files whose numbers are bytes.
-- Assumes nothing.
use mathlib.Core.List.{List}
use Prim.Native.Nat.{ℕ, ◌<◌}
use lib.ListN.{get_or}
use Rattle.figures.specs.Numbers.{tabulate}
use Rattle.layout.specs.Layout.{Layout, conditions_in, requirements_in, runs_in}
use Rattle.layout.specs.Written.{Parts}
use Rattle.layout.specs.Checks.{requirement_rows_in, run_words_in}

abbrev pub parts_in : Layout → List ℕ → Parts
parts_in form file =
    record {
      conditions = conditions_in file;
      requirements = tabulate (requirements_in file) (requirement_rows_in form file);
      runs = tabulate (runs_in file) (run_words_in form file);
    }

-- each number of a file is a byte; past the end 0 is read
abbrev pub Bytes : List ℕ → Type 0
Bytes file = (k : ℕ) → get_or file k 0 < 256
