-- The parts found in a right file are a suite within the limits, and its bytes are the file.
-- Assumes nothing.
use mathlib.Core.Path.{◌≡◌, sym, ◌∙◌, ap, ap₂, subst⁻¹}
use mathlib.Core.List.{List, [], ◌++◌}
use Prim.Native.Nat.{ℕ, ◌+◌, ◌*◌, ◌/◌, ◌≤◌, ◌<◌}
use native.Mathlib.Omega.{arith}
use lib.ListN.{length, get_or}
use Rattle.lengths.specs.Lengths.{row_bytes}
use Rattle.limits.specs.Limits.{most_bytes}
use Rattle.figures.specs.Numbers.{tabulate}
use Rattle.laws.proofs.Tabulated.{length_tabulate, get_d_tabulate}
use Rattle.rows.specs.Rows.{Row}
use Rattle.codec.specs.Codec.{row_of}
use Rattle.codec.proofs.Bytes.{length_rows_of}
use Rattle.row_laws.proofs.RoundTrip.{bytes_back}
use Rattle.layout.specs.Layout.{form1, word_size, conditions_in, requirements_in, runs_in, items_in, start_in, count_in, body_size, body_in}
use Rattle.layout.specs.Written.{Item, requirement_item, run_item, items_of, bytes_of_suite, RequirementSound, RunSound, SuiteSound}
use Rattle.layout.specs.Checks.{of_suite, requirement_rows_in, run_words_in}
use Rattle.suite_laws.proofs.Parts.{parts_in, Bytes}
use Rattle.suite_laws.proofs.Listed.{tabulate_same, tabulate_add, map_tabulate}
use Rattle.suite_laws.proofs.Words.{length_words_of, word_bytes_back, words_small}
use Rattle.suite_laws.proofs.Requirements.{rows_coded, passes_in_file as requirement_in_file}
use Rattle.suite_laws.proofs.Right.{ContentsRight, FileRight}
use Rattle.suite_laws.proofs.Items.{unit_requirement, unit_run, most_requirement, most_run}
use Rattle.suite_laws.proofs.Filed.{file_of_items}
use Rattle.suite_laws.proofs.Cut.{found, bytes_part, file_cut}
use Rattle.suite_laws.proofs.Inside.{length_body}
use Rattle.suite_laws.proofs.Runs.{passes_in_file as run_in_file}

same_item : {m n : ℕ} {s t : List ℕ} → m ≡ n → s ≡ t → ◌≡◌ {A = Item} (record { count = m; body = s }) (record { count = n; body = t })
same_item e f = ap₂ (λ (m : ℕ) (s : List ℕ). record { count = m; body = s }) e f

module _ (file : List ℕ) (small : Bytes file) (right : FileRight form1 file) where
  abbrev contents : ContentsRight form1 of_suite file
  contents = right.contents

  abbrev conditions : ℕ
  conditions = conditions_in file

  small_body : (k : ℕ) → Bytes (body_in form1 file k)
  small_body k = bytes_part file small (start_in form1 file k) (body_size form1 file k)

  -- a requirement: its rows are as many as its entry says, and give its body
  module _ (q : ℕ) (l : q < requirements_in file) where
    abbrev rows : List Row
    rows = requirement_rows_in form1 file q

    rows_size : length (body_in form1 file q) ≡ row_bytes * count_in form1 file q
    rows_size =
        length_body file of_suite contents q (omega arith)
        ∙ ap (λ (u : ℕ). u * count_in form1 file q) (unit_requirement form1 file q l)

    rows_many : length rows ≡ count_in form1 file q
    rows_many = length_rows_of (body_in form1 file q) ∙ omega (arith, rows_size)

    requirement_found : requirement_item form1 rows ≡ found file q
    requirement_found =
        same_item rows_many
        (rows_coded rows ∙ bytes_back (body_in form1 file q) (λ i _. small_body q i) (omega (arith, rows_size)))

    three : (r : ℕ) → r < length rows → length (get_or rows r []) ≡ 3
    three r h =
        let body = body_in form1 file q in
        ap length (get_d_tabulate (row_of body) (length body / row_bytes) r [] (omega (arith, length_rows_of body)))

    requirement_sound : RequirementSound form1 conditions rows
    requirement_sound =
        let counted = (contents.entries q (omega arith)).1 in
        let most = most_requirement form1 file q l in
        let size = rows_many in
        record {
          some_row = omega arith;
          few_rows = omega arith;
          three = three;
          passes = ((requirement_in_file conditions rows (start_in form1 file q) row_bytes).0 (right.requirements q l)).1;
        }

  -- a run: its words are as many as its entry says, and give its body
  module _ (j : ℕ) (l : j < runs_in file) where
    abbrev place : ℕ
    place = requirements_in file + j

    abbrev words : List ℕ
    words = run_words_in form1 file j

    words_size : length (body_in form1 file place) ≡ word_size * count_in form1 file place
    words_size =
        length_body file of_suite contents place (omega arith)
        ∙ ap (λ (u : ℕ). u * count_in form1 file place) (unit_run form1 file place (omega arith))

    words_many : length words ≡ count_in form1 file place
    words_many = length_words_of (body_in form1 file place) ∙ omega (arith, words_size)

    run_found : run_item words ≡ found file place
    run_found = same_item words_many (word_bytes_back (body_in form1 file place) (small_body place) (omega (arith, words_size)))

    run_sound : RunSound conditions words
    run_sound =
        let counted = (contents.entries place (omega arith)).1 in
        let most = most_run form1 file place (omega arith) in
        let size = words_many in
        record {
          bits = words_small (body_in form1 file place) (small_body place);
          passes = ((run_in_file conditions words (start_in form1 file place)).1 ((omega arith, omega arith), right.runs j l)).1;
        }

  -- the items of the parts are those found
  items_found : items_of form1 (parts_in form1 file) ≡ tabulate (items_in file) (found file)
  items_found =
      ap₂ ◌++◌
      (map_tabulate (requirement_item form1) (requirement_rows_in form1 file) (requirements_in file) ∙ tabulate_same _ (found file) (requirements_in file) requirement_found)
      (map_tabulate run_item (run_words_in form1 file) (runs_in file) ∙ tabulate_same _ (λ j. found file (requirements_in file + j)) (runs_in file) run_found)
      ∙ sym (tabulate_add (found file) (requirements_in file) (runs_in file))

  pub found_bytes : bytes_of_suite form1 (parts_in form1 file) ≡ file
  found_bytes =
      let parts = parts_in form1 file in
      let counted : file_of_items 1 conditions (length parts.requirements) (length parts.runs) (items_of form1 parts)
      ≡ file_of_items 1 conditions (requirements_in file) (runs_in file) (items_of form1 parts) =
      ap₂ (λ (c d : ℕ). file_of_items 1 conditions c d (items_of form1 parts))
      (length_tabulate (requirement_rows_in form1 file) (requirements_in file)) (length_tabulate (run_words_in form1 file) (runs_in file)) in
      counted
      ∙ ap₂ (λ (a : ℕ) (items : List Item). file_of_items a conditions (requirements_in file) (runs_in file) items)
      (sym contents.form_right) items_found
      ∙ file_cut file small of_suite contents

  pub found_sound : SuiteSound form1 (parts_in form1 file)
  found_sound =
      let many = length_tabulate (requirement_rows_in form1 file) (requirements_in file) in
      let runs_many = length_tabulate (run_words_in form1 file) (runs_in file) in
      let requirements_within = contents.requirements in
      let runs_within = contents.runs in
      record {
        some_condition = contents.conditions.0;
        few_conditions = contents.conditions.1;
        some_requirement = omega arith;
        few_requirements = omega arith;
        some_run = omega arith;
        few_runs = omega arith;
        requirements = λ q l.
            let h : q < requirements_in file = omega arith in
            subst⁻¹ (RequirementSound form1 conditions) (get_d_tabulate (requirement_rows_in form1 file) (requirements_in file) q [] h) (requirement_sound q h);
        runs = λ j l.
            let h : j < runs_in file = omega arith in
            subst⁻¹ (RunSound conditions) (get_d_tabulate (run_words_in form1 file) (runs_in file) j [] h) (run_sound j h);
        few_bytes = subst⁻¹ (λ (bytes : List ℕ). length bytes ≤ most_bytes) found_bytes contents.size.1;
      }
