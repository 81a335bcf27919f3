-- The bytes of a suite within the limits are a right file, and its rows and words are read back from them.
-- Assumes nothing.
use mathlib.Core.Path.{◌≡◌, refl, sym, ◌∙◌, ap, subst⁻¹}
use mathlib.Core.List.{List, []}
use Prim.Native.Nat.{ℕ, ◌+◌, ◌-◌, ◌<◌}
use native.Mathlib.Omega.{arith}
use native.Mathlib.Decide.{dec_lt}
use lib.ListN.{length, get_or}
use Rattle.lengths.specs.Lengths.{row_bytes, most_requirement_rows, most_steps}
use Rattle.laws.proofs.Order.{Passes}
use Rattle.rows.specs.Rows.{Row}
use Rattle.codec.specs.Codec.{rows_of}
use Rattle.codec.proofs.Bytes.{length_bytes_of}
use Rattle.layout.specs.Layout.{form1, word_size, start_in, unit_of, most_of, body_in}
use Rattle.layout.specs.Written.{Parts, Item, requirement_item, run_item, items_of, bytes_of_suite, RunSound, RequirementSound, SuiteSound}
use Rattle.layout.specs.Checks.{words_of, requirement_rows_in, run_words_in, requirement_from, requirement_of_file, run_from, run_of_file}
use Rattle.suite_laws.proofs.Words.{length_words_in, words_back}
use Rattle.suite_laws.proofs.Requirements.{rows_coded, rows_read, passes_in_file as requirement_in_file}
use Rattle.suite_laws.proofs.Runs.{passes_in_file as run_in_file}
use Rattle.suite_laws.proofs.Right.{FileRight}
use Rattle.suite_laws.proofs.Contents.{item_at}
use Rattle.suite_laws.proofs.Items.{length_items, item_requirement, item_run, unit_requirement, unit_run, most_requirement, most_run}
use Rattle.suite_laws.proofs.Filed.{ItemRight, length_file, entries_right, bodies_read, end_right}

right_as : {u v m n : ℕ} {x y : Item} → u ≡ v → m ≡ n → x ≡ y → ItemRight v n y → ItemRight u m x
right_as {u} {v} {m} {n} {x} {y} e f g h = rw (e, f, g) h

requirement_right :
    (conditions : ℕ) (rows : List Row) → RequirementSound form1 conditions rows →
    ItemRight row_bytes most_requirement_rows (requirement_item form1 rows)
requirement_right conditions rows right =
    record { sized = sym (ap length (rows_coded rows) ∙ length_bytes_of rows); within = (right.some_row, right.few_rows) }

run_right : (conditions : ℕ) (run : List ℕ) → RunSound conditions run → ItemRight word_size most_steps (run_item run)
run_right conditions run right =
    record { sized = sym (length_words_in run); within = ((run_in_file conditions run 0).0 (tt, right.passes)).0 }

module _ (parts : Parts) (sound : SuiteSound form1 parts) where
  abbrev file : List ℕ
  file = bytes_of_suite form1 parts

  abbrev items : List Item
  items = items_of form1 parts

  abbrev many : ℕ
  many = length parts.requirements

  item_right : (k : ℕ) → k < length items → ItemRight (unit_of form1 file k) (most_of form1 file k) (item_at items k)
  item_right k l = go (dec_lt k many)
    where
      go : Dec (k < many) → ItemRight (unit_of form1 file k) (most_of form1 file k) (item_at items k)
      go (yes h) =
          right_as (unit_requirement form1 file k h) (most_requirement form1 file k h) (item_requirement form1 parts k h)
          (requirement_right parts.conditions _ (sound.requirements k h))
      go (no h) =
          let j = k - many in
          let there : k ≡ many + j = omega arith in
          right_as (unit_run form1 file k (omega arith)) (most_run form1 file k (omega arith)) (ap (item_at items) there ∙ item_run form1 parts j)
          (run_right parts.conditions _ (sound.runs j (omega (arith, length_items form1 parts))))

  body_there : (k : ℕ) → k < length items → body_in form1 file k ≡ (item_at items k).body
  body_there =
      let few = sound.few_bytes in
      bodies_read 1 parts.conditions many (length parts.runs) items (omega arith) (length_items form1 parts) item_right

  -- each requirement's rows and each run's words are read back
  pub rows_there : (q : ℕ) → q < many → requirement_rows_in form1 file q ≡ get_or parts.requirements q []
  rows_there q l =
      ap rows_of (body_there q (omega (arith, length_items form1 parts)) ∙ ap (λ (i : Item). i.body) (item_requirement form1 parts q l))
      ∙ rows_read parts.conditions sound.few_conditions _ (sound.requirements q l)

  pub words_there : (j : ℕ) → j < length parts.runs → run_words_in form1 file j ≡ get_or parts.runs j []
  words_there j l =
      ap words_of (body_there (many + j) (omega (arith, length_items form1 parts)) ∙ ap (λ (i : Item). i.body) (item_run form1 parts j))
      ∙ words_back _ (sound.runs j l).bits

  requirement_passes : (q : ℕ) → q < many → Passes (requirement_of_file form1 file q)
  requirement_passes q l =
      subst⁻¹ (λ (rows : List Row). Passes (requirement_from parts.conditions (start_in form1 file q) row_bytes rows)) (rows_there q l)
      ((requirement_in_file parts.conditions (get_or parts.requirements q []) (start_in form1 file q) row_bytes).1 (tt, (sound.requirements q l).passes))

  run_passes : (j : ℕ) → j < length parts.runs → Passes (run_of_file form1 file j)
  run_passes j l =
      let from = start_in form1 file (many + j) in
      subst⁻¹ (λ (run : List ℕ). Passes (run_from parts.conditions from run)) (words_there j l)
      ((run_in_file parts.conditions (get_or parts.runs j []) from).0 (tt, (sound.runs j l).passes)).1

  pub written_right : FileRight form1 file
  written_right =
      let few = sound.few_bytes in
      let all = length_items form1 parts in
      let size = length_file 1 parts.conditions many (length parts.runs) items in
      record {
        contents =
            record {
              size = (omega arith, few);
              form_right = refl;
              conditions = (sound.some_condition, sound.few_conditions);
              requirements = (sound.some_requirement, sound.few_requirements);
              runs = (sound.some_run, sound.few_runs);
              inside = omega arith;
              entries = λ k l. entries_right 1 parts.conditions many (length parts.runs) items (omega arith) all item_right k (omega arith);
              end = end_right 1 parts.conditions many (length parts.runs) items (omega arith) all item_right;
            };
        requirements = requirement_passes;
        runs = run_passes;
      }
