-- A body that the contents allow fits the array that it is decoded into, so it is decoded whole.
-- Assumes nothing.
use mathlib.Core.Path.{◌≡◌, ap}
use mathlib.Core.List.{List}
use Prim.Native.Nat.{ℕ, ◌+◌, ◌*◌, ◌/◌, ◌≤◌, ◌<◌}
use native.Mathlib.Omega.{arith}
use lib.ListN.{length, take, drop, length-take}
use lib.Seq.{take_all}
use Rattle.lengths.specs.Lengths.{row_bytes, most_table_rows, most_steps}
use Rattle.codec.proofs.Bytes.{all_decoded}
use Rattle.layout.specs.Layout.{form1, word_size, requirements_in, start_in, count_in, body_size, body_in}
use Rattle.layout.specs.Checks.{Range, FewRows, FewSteps, requirement_rows_in, run_words_in}
use Rattle.suite_laws.proofs.Items.{unit_requirement, unit_run, most_requirement, most_run}
use Rattle.suite_laws.proofs.Right.{ContentsRight}
use Rattle.suite_laws.proofs.Words.{length_words_of}

module _ (file : List ℕ) where
  body_inside : (k : ℕ) → length (body_in form1 file k) ≤ body_size form1 file k
  body_inside k = omega (arith, length-take (body_size form1 file k) (drop (start_in form1 file k) file))

  pub rows_fit :
      (q : ℕ) → q < requirements_in file → count_in form1 file q ≤ most_table_rows → length (body_in form1 file q) / row_bytes ≤ most_table_rows
  rows_fit q l few =
      let size : body_size form1 file q ≡ row_bytes * count_in form1 file q = ap (λ u. u * count_in form1 file q) (unit_requirement form1 file q l) in
      omega (arith, body_inside q)

  pub steps_fit :
      (j : ℕ) → count_in form1 file (requirements_in file + j) ≤ most_steps → length (body_in form1 file (requirements_in file + j)) / word_size ≤ most_steps
  steps_fit j few =
      let k = requirements_in file + j in
      let size : body_size form1 file k ≡ word_size * count_in form1 file k = ap (λ u. u * count_in form1 file k) (unit_run form1 file k (omega arith)) in
      omega (arith, body_inside k)

  pub rows_whole :
      (q : ℕ) → q < requirements_in file → count_in form1 file q ≤ most_table_rows →
      take most_table_rows (requirement_rows_in form1 file q) ≡ requirement_rows_in form1 file q
  rows_whole q l few = (all_decoded (body_in form1 file q) (rows_fit q l few)).0

  pub words_whole :
      (j : ℕ) → count_in form1 file (requirements_in file + j) ≤ most_steps →
      take most_steps (run_words_in form1 file j) ≡ run_words_in form1 file j
  words_whole j few =
      take_all most_steps (run_words_in form1 file j)
      (omega (arith, length_words_of (body_in form1 file (requirements_in file + j)), steps_fit j few))

  pub words_few :
      (j : ℕ) → count_in form1 file (requirements_in file + j) ≤ most_steps → length (run_words_in form1 file j) ≤ most_steps
  words_few j few = omega (arith, length_words_of (body_in form1 file (requirements_in file + j)), steps_fit j few)

  -- what 5 leaves to the checks after it
  module _ {range : Range} (right : ContentsRight form1 range file) where
    pub few_rows : FewRows form1 file
    few_rows q l = omega (arith, (right.entries q (omega arith)).1.1, most_requirement form1 file q l)

    pub few_steps : FewSteps form1 file
    few_steps j l =
        let k = requirements_in file + j in
        omega (arith, (right.entries k (omega arith)).1.1, most_run form1 file k (omega arith))
