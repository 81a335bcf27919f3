-- The longest sheet: how many bytes each line, each block and the whole sheet of a file that passes take at most.
-- Assumes nothing.
use mathlib.Core.Path.{◌≡◌}
use mathlib.Core.Bool.{Bool, true, false, cond}
use mathlib.Core.List.{List, [], ◌∷◌, ◌++◌}
use Prim.Native.Nat.{ℕ, ◌+◌, ◌*◌, ◌≤◌, ◌<◌}
use native.Mathlib.Omega.{arith}
use lib.ListN.{length, length-append}
use Rattle.lines.specs.Lines.{decimal, line}
use Rattle.lines.proofs.Fields.{length_more, length_last}
use Rattle.lines.proofs.Width.{width_2, width_3}
use Rattle.rows.specs.Rows.{Row}
use Rattle.rows.specs.Checks.{occurrences}
use Rattle.layout.specs.Layout.{form1}
use Rattle.suite_laws.proofs.Right.{FileRight}
use Rattle.bench.specs.declared.ConditionAnswer.{ConditionAnswer}
use Rattle.bench.specs.declared.ConditionAnswer.TheVariants as answer
use Rattle.lines.specs.Texts.{in_order}
use Rattle.bench.specs.Coverage.{Bench, covered_of, held_of, mattered_count, all_occurrences, row_of_occurrence}
use Rattle.bench.specs.Files.{bench_of, RequirementsReady, RunsReady}
use Rattle.bench.specs.Sheet.{suite_word, req_word, occ_word, held_word, cov_word, cond_word, total_word, suite_line, req_line, cov_line, answer_word, answer_of, cond_line, total_line, cov_lines, block_from, block_of, sheet_text}
use Rattle.bench.proofs.Ready.{requirements_ready, runs_ready}
use Rattle.bench.proofs.Sizes.{size_most, sum_most, mattered_few}
use Rattle.lines.proofs.InOrder.{order_within}
use Rattle.covs.proofs.Occurring.{few_occurrences}
use Rattle.sheets.specs.Answers.{sheet_of_file}

-- a line has its fields' bytes, and one byte after each
abbrev bytes : List (List ℕ) → ℕ
bytes [] = 0
bytes (f ∷ fs) = length f + 1 + bytes fs

line_bytes : (f : List ℕ) (fs : List (List ℕ)) → length (line (f ∷ fs)) ≡ bytes (f ∷ fs)
line_bytes f [] = omega (arith, length_last f)
line_bytes f (g ∷ fs) = omega (arith, length_more f g fs, line_bytes g fs)

suite_line_lem : (a b : ℕ) → a < 100 → b < 100 → length (suite_line a b) ≤ 12
suite_line_lem a b l m = omega (arith, line_bytes suite_word (decimal a ∷ decimal b ∷ []), width_2 a l, width_2 b m)

total_line_lem : (a b : ℕ) → a < 1000 → b < 1000 → length (total_line a b) ≤ 14
total_line_lem a b l m = omega (arith, line_bytes total_word (decimal a ∷ decimal b ∷ []), width_3 a l, width_3 b m)

cov_line_lem : (q o j : ℕ) → q < 100 → o < 100 → j < 100 → length (cov_line q o j) ≤ 13
cov_line_lem q o j l m n = omega (arith, line_bytes cov_word (decimal q ∷ decimal o ∷ decimal j ∷ []), width_2 q l, width_2 o m, width_2 j n)

req_line_lem : (q o h : ℕ) → q < 100 → o < 100 → h < 100 → length (req_line q o h) ≤ 22
req_line_lem q o h l m n =
    omega
    (arith, line_bytes req_word (decimal q ∷ occ_word ∷ decimal o ∷ held_word ∷ decimal h ∷ []), width_2 q l, width_2 o m, width_2 h n)

answer_word_lem : (a : ConditionAnswer) → length (answer_word a) ≤ 6
answer_word_lem answer.Yes = omega arith
answer_word_lem answer.No = omega arith
answer_word_lem answer.Unused = omega arith

cond_line_lem : (c : ℕ) (a : ConditionAnswer) → c < 100 → length (cond_line c a) ≤ 15
cond_line_lem c a l = omega (arith, line_bytes cond_word (decimal c ∷ answer_word a ∷ []), width_2 c l, answer_word_lem a)

-- a line where something holds
line_if : (b : Bool) (l : List ℕ) (w : ℕ) → length l ≤ w → length (cond b l []) ≤ w
line_if true l w h = h
line_if false l w h = omega arith

module _ (rows : List Row) (few : length rows ≤ 32) (runs : ℕ) (few_runs : runs ≤ 64) (words : ℕ → List ℕ) (q : ℕ) (few_q : q < 100) where
  covs_of : (o : ℕ) → o < 100 → (p : ℕ) → length (in_order runs (λ j. cond (covered_of rows words p j) (cov_line q o j) [])) ≤ 13 * runs
  covs_of o l p =
      order_within _ 13 runs (λ j g. line_if (covered_of rows words p j) (cov_line q o j) 13 (cov_line_lem q o j few_q l (omega arith)))

  cov_lines_lem : length (cov_lines rows runs (covered_of rows words) q) ≤ 832 * length (occurrences rows)
  cov_lines_lem =
      order_within _ 832 (length (occurrences rows))
      (λ o l. omega (arith, covs_of o (omega (arith, few_occurrences rows)) (row_of_occurrence rows o)))

  block : length (block_from rows runs words q) ≤ 26646
  block =
      let many = length (occurrences rows) in
      let held = held_of rows runs words in
      let few_many = few_occurrences rows in
      let few_held : held ≤ runs = size_most runs _ in
      omega (
        arith,
        length-append (req_line q many held) (cov_lines rows runs (covered_of rows words) q),
        req_line_lem q many held few_q (omega arith) (omega arith),
        cov_lines_lem,
      )

module _ (ours theirs : List ℕ) (ready : RequirementsReady ours) (over : RunsReady theirs) where
  abbrev b : Bench
  b = bench_of ours theirs

  blocks : length (in_order b.requirements (block_of b)) ≤ 26646 * b.requirements
  blocks =
      order_within (block_of b) 26646 b.requirements
      (λ q l.
      block (b.rows q) (ready.rows q l).few_rows b.runs over.few_runs b.words q (omega (arith, ready.few_requirements)))

  conds : length (in_order b.conditions (λ c. cond_line c (answer_of b c))) ≤ 15 * b.conditions
  conds = order_within _ 15 b.conditions (λ c l. cond_line_lem c (answer_of b c) (omega (arith, ready.few_conditions)))

  all_few : all_occurrences b ≤ b.requirements * 32
  all_few = sum_most b.requirements 32 (λ q l. omega (arith, few_occurrences (b.rows q), (ready.rows q l).few_rows))

  total : length (total_line (mattered_count b) (all_occurrences b)) ≤ 14
  total =
      let few = ready.few_requirements in
      total_line_lem (mattered_count b) (all_occurrences b) (omega (arith, mattered_few b, all_few)) (omega (arith, all_few))

  pub sheet_within : length (sheet_text b) ≤ 426842
  unfolding sheet_text
  sheet_within =
      let few = ready.few_requirements in
      let few_conditions = ready.few_conditions in
      let last_part = total_line (mattered_count b) (all_occurrences b) in
      let conds_part = in_order b.conditions (λ c. cond_line c (answer_of b c)) in
      let blocks_part = in_order b.requirements (block_of b) in
      omega (
        arith,
        length-append (suite_line b.requirements b.runs) (blocks_part ++ (conds_part ++ last_part)),
        length-append blocks_part (conds_part ++ last_part),
        length-append conds_part last_part,
        suite_line_lem b.requirements b.runs (omega arith) (omega (arith, over.few_runs)),
        blocks,
        conds,
        total,
      )

pub longest : (file : List ℕ) → FileRight form1 file → length (sheet_of_file file) ≤ 426842
longest file right = sheet_within file file (requirements_ready file right) (runs_ready file right)
