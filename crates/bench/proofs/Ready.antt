-- A file that passes its checks is ready: the engine can take its requirements and its runs.
-- Assumes nothing.
use Rattle.rows.specs.Checks.{lone_row}
use Rattle.figures.specs.declared.Refusal.TheVariants.{UnsoundRow, NotRequirement}
use mathlib.Core.Path.{◌≡◌, sym, ◌∙◌, ap}
use mathlib.Core.List.{List}
use Prim.Native.Nat.{ℕ, ◌+◌, ◌*◌, ◌<◌}
use native.Mathlib.Omega.{arith}
use lib.ListN.{length}
use Rattle.limits.specs.declared.Suite.{Suite}
use Rattle.figures.specs.Refusals.Outcome.{gives}
use Rattle.lengths.specs.Lengths.{row_bytes, most_requirement_rows}
use Rattle.laws.proofs.Order.{both_pass, lowest_passes}
use Rattle.laws.proofs.Passed.{Within}
use Rattle.codec.proofs.Bytes.{length_rows_of}
use Rattle.row_laws.proofs.Sound.{requirement}
use Rattle.truth.proofs.Accepted.{fit_in}
use Rattle.layout.specs.Layout.{form1, word_size, conditions_in, requirements_in, runs_in, start_in, count_in, body_size, body_in}
use Rattle.layout.specs.Checks.{of_suite, requirement_rows_in, run_words_in, file_says}
use Rattle.suite_laws.proofs.Inside.{length_body}
use Rattle.suite_laws.proofs.Items.{unit_requirement, most_requirement, unit_run, most_run}
use Rattle.suite_laws.proofs.Requirements.{passes_in_file}
use Rattle.suite_laws.proofs.Right.{ContentsRight, FileRight, file_gives}
use Rattle.suite_laws.proofs.Words.{length_words_of}
use Rattle.bench.specs.Files.{RowsReady, RunReady, RequirementsReady, RunsReady}

module _ (file : List ℕ) (right : FileRight form1 file) where
  abbrev contents : ContentsRight form1 of_suite file
  contents = right.contents

  -- as many rows or steps as the entry counts
  row_count : (q : ℕ) → q < requirements_in file → length (requirement_rows_in form1 file q) ≡ count_in form1 file q
  row_count q l =
      let size : body_size form1 file q ≡ row_bytes * count_in form1 file q = ap (λ u. u * count_in form1 file q) (unit_requirement form1 file q l) in
      length_rows_of (body_in form1 file q) ∙ omega (arith, length_body file of_suite contents q (omega arith))

  step_count : (j : ℕ) → j < runs_in file → length (run_words_in form1 file j) ≡ count_in form1 file (requirements_in file + j)
  step_count j l =
      let k = requirements_in file + j in
      let size : body_size form1 file k ≡ word_size * count_in form1 file k = ap (λ u. u * count_in form1 file k) (unit_run form1 file k (omega arith)) in
      length_words_of (body_in form1 file k) ∙ omega (arith, length_body file of_suite contents k (omega arith))

  rows_counted : (q : ℕ) → q < requirements_in file → Within 1 most_requirement_rows (length (requirement_rows_in form1 file q))
  rows_counted q l =
      let entry = (contents.entries q (omega arith)).1 in
      let many = row_count q l in
      let most = most_requirement form1 file q l in
      (omega (arith, entry.0), omega (arith, entry.1))

  rows_ready : (q : ℕ) → q < requirements_in file → RowsReady (requirement_rows_in form1 file q)
  rows_ready q l =
      let rows = requirement_rows_in form1 file q in
      let conditions = conditions_in file in
      let passed = (both_pass _ _).0 ((passes_in_file conditions rows (start_in form1 file q) row_bytes).0 (right.requirements q l)) in
      let counted = rows_counted q l in
      record {
        fit = fit_in most_requirement_rows conditions rows passed.0 contents.conditions.1 counted.1;
        is = requirement rows conditions ((lowest_passes (λ x. UnsoundRow (lone_row x)) (length rows) _).0 passed.0) ((lowest_passes (λ x. NotRequirement (lone_row x)) (length rows) _).0 passed.1);
        some_row = counted.0;
        few_rows = counted.1;
      }

  pub requirements_ready : RequirementsReady file
  requirements_ready =
      record { few_conditions = contents.conditions.1; few_requirements = contents.requirements.1; rows = rows_ready }

  pub runs_ready : RunsReady file
  runs_ready = record { few_runs = contents.runs.1; run = run_ready }
    where
      run_ready : (j : ℕ) → j < runs_in file → RunReady (run_words_in form1 file j)
      run_ready j l =
          let k = requirements_in file + j in
          let entry = (contents.entries k (omega arith)).1 in
          let many = step_count j l in
          let most = most_run form1 file k (omega arith) in
          record { some_step = omega (arith, entry.0); few_steps = omega (arith, entry.1) }

-- a file whose checks gave these counts is ready, and the counts are those in its head
pub ready :
    (file : List ℕ) (counts : Suite) → file_says form1 file ≡ gives counts →
    RequirementsReady file × RunsReady file × (counts.conditions.0 ≡ conditions_in file) × (counts.requirements.0 ≡ requirements_in file) × (counts.runs.0 ≡ runs_in file)
ready file counts e =
    let (right, same) = (file_gives form1 file counts).0 e in (
      requirements_ready file right,
      runs_ready file right,
      ap (λ (s : Suite). s.conditions.0) (sym same),
      ap (λ (s : Suite). s.requirements.0) (sym same),
      ap (λ (s : Suite). s.runs.0) (sym same),
    )
