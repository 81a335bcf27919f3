-- `marking::mark_run` meets its contract: the marks of the rows passed are set in the run's column, and no others changed.
use mathlib.Core.Path.{◌≡◌}
use mathlib.Core.Bool.{Bool}
use mathlib.Core.List.{List}
use Prim.Native.Nat.{ℕ, ◌≤◌, ◌<◌}
use Rattle.limits.specs.Limits.{most_runs}
use Rattle.layout.specs.Checks.{words_of}
use Rattle.bench.specs.Tables.{marked, mark_of}
use Rattle.marking.specs.Flipped.{number_in}
use Rattle.marking.proofs.mark_run.Given as goal

-- the marks of column j in the rows below p, and those of the other columns
abbrev pub Here : (ℕ → Bool) → ℕ → List Bool → ℕ → Type 0
Here f j marks p = (k : ℕ) → k < p → marked marks k j ≡ f k

abbrev pub Others : ℕ → List Bool → List Bool → Type 0
Others j before after = (k i : ℕ) → i < most_runs → (i ≡ j → ⊥) → marked after k i ≡ marked before k i

abbrev pub invariant-loop-p : goal.invariant-loop-p
invariant-loop-p l =
    (l.o ≡ number_in l.rows l.p) × (l.o ≤ l.p) × Here (mark_of l.rows (words_of l.run)) l.j.0 l.marks.cells l.p
    × Others l.j.0 l.initial.marks.cells l.marks.cells
