-- `composing::put_block_of` meets its contract: marks that are right give the block's lines and the requirement's notes.
use native.Mathlib.Omega.{arith}
use mathlib.Core.Path.{◌≡◌, ◌∙◌, ap, ap₂}
use mathlib.Core.Bool.{Bool, ◌&&◌}
use mathlib.Core.List.{List, ◌++◌, append_assoc}
use Prim.Native.Nat.{ℕ}
use lib.ListN.{length}
use Rattle.rows.specs.Rows.{Row}
use Rattle.rows.specs.Checks.{occurrences}
use Rattle.layout.specs.Layout.{form1}
use Rattle.layout.specs.Checks.{run_words_in}
use Rattle.bench.specs.Coverage.{covered_of, held_of}
use Rattle.bench.specs.Sheet.{req_line, cov_line, cov_lines, block_from}
use Rattle.bench.specs.Tables.{marked, Marked}
use Rattle.bench.proofs.Alike.{listed_same}
use Rattle.covs.proofs.Occurring.{few_occurrences}
use Rattle.composing.proofs.Noted.{requirement_noted}
use Rattle.composing.proofs.put_block_of.Goals as goal

-- marks that are right
module _ (rows : List Row) (runs : ℕ) (words : ℕ → List ℕ) (q : ℕ) (marks : List Bool) (right : Marked rows words runs marks) where
  lines_are : cov_lines rows runs (marked marks) q ≡ cov_lines rows runs (covered_of rows words) q
  lines_are =
      listed_same rows runs (cov_line q) (λ p j inside is l. right p j inside l ∙ ap (λ (t : Bool). t && covered_of rows words p j) is)

  block :
      (before : List ℕ) {mid after : List ℕ} {many held : ℕ} → many ≡ length (occurrences rows) → held ≡ held_of rows runs words →
      mid ≡ before ++ req_line q many held → after ≡ mid ++ cov_lines rows runs (marked marks) q →
      after ≡ before ++ block_from rows runs words q
  block before many_is held_is head covs =
      covs
      ∙ ap (λ (t : List ℕ). t ++ cov_lines rows runs (marked marks) q) head
      ∙ append_assoc before _ _
      ∙ ap (λ (t : List ℕ). before ++ t) (ap₂ ◌++◌ (ap₂ (req_line q) many_is held_is) lines_are)

pub put_req_line-requires : goal.put_req_line-requires
put_req_line-requires g c =
    let fits = c.well_formed in
    let few = few_occurrences c.args.rows.now in
    let runs = c.args.runs in (
      omega arith,
      (
        omega arith,
        omega (arith, c.occurrence_count.ensures),
        omega (arith, c.mark_runs-held.ensures.result_value.1, runs.counted, runs.ready.few_runs),
        omega arith,
      ),
    )

pub put_covs-requires : goal.put_covs-requires
put_covs-requires g c =
    let fits = c.well_formed in
    let runs = c.args.runs in
    let few = c.requires.0.few_rows in (
      omega arith,
      (
        omega arith,
        few,
        omega (arith, runs.counted, runs.ready.few_runs),
        omega (arith, few, c.put_req_line.ensures.ends),
      ),
    )

pub returns : goal.returns
returns g c =
    let runs = c.args.runs in
    let right = c.mark_runs-held.ensures.marked in
    let few = c.requires.0.few_rows in
    record {
      puts =
          block c.args.rows.now runs.many.0 (run_words_in form1 runs.file.now) c.args.q.0 c.mark_runs-held.new.marks.cells right c.args.page.now.text.items
          c.occurrence_count.ensures c.mark_runs-held.ensures.result_value.0 c.put_req_line.ensures.puts c.put_covs.ensures.puts;
      ends = omega (arith, few, c.put_req_line.ensures.ends, c.put_covs.ensures.ends);
      requirement_noted = requirement_noted right c.note_marks.ensures;
    }
