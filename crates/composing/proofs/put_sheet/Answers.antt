-- `composing::put_sheet` meets its contract: its four parts stand one after the other, and notes that are right give the last two.
use native.Mathlib.Omega.{arith}
use mathlib.Core.Path.{◌≡◌, ◌∙◌, ap, ap₂}
use mathlib.Core.Bool.{Bool}
use mathlib.Core.List.{List, ◌++◌, append_assoc}
use Prim.Native.Nat.{ℕ, ◌≤◌}
use lib.ListN.{length}
use Rattle.lines.specs.Texts.{in_order}
use Rattle.bench.specs.Coverage.{Bench, size, sum, occurrence_count, mattered_count, all_occurrences}
use Rattle.bench.specs.Files.{bench_of}
use Rattle.bench.specs.Sheet.{suite_line, block_of, answer_of, cond_line, total_line, sheet_text}
use Rattle.bench.specs.Tables.{noted, SuiteNoted}
use Rattle.bench.proofs.Alike.{order_same}
use Rattle.composing.proofs.Noted.{noted_answer, counted, answered}
use Rattle.composing.proofs.put_sheet.Goals as goal

-- a condition's line by the notes
abbrev noted-line : Bench → List Bool → ℕ → List ℕ
noted-line b notes c = cond_line c (noted_answer b notes c b.requirements)

-- four texts put one after the other are their texts together
regroup :
    (line block cond total before : List ℕ) {lined blocked answered after : List ℕ} → lined ≡ before ++ line →
    blocked ≡ lined ++ block → answered ≡ blocked ++ cond → after ≡ answered ++ total → after ≡ before ++ (line ++ (block ++ (cond ++ total)))
regroup line block cond total before e f g h = rw (h, g, f, e) (simp append_assoc)

-- the parts, by counts that are the bench's and notes that are right, are the sheet
module _
    (b : Bench) (notes : List Bool) {requirements runs conditions : ℕ} (right : SuiteNoted b requirements notes) (requirements-are : requirements ≡ b.requirements)
    (runs-are : runs ≡ b.runs) (conditions-are : conditions ≡ b.conditions) {mattered all : ℕ}
    (mattered-is : mattered ≡ sum requirements (λ q. size (length (b.rows q)) (noted notes q))) (all-is : all ≡ sum requirements (occurrence_count b)) where
  right-notes : SuiteNoted b b.requirements notes
  right-notes q p l = right q p (omega arith)

  conds-are : in_order conditions (noted-line b notes) ≡ in_order b.conditions (λ c. cond_line c (answer_of b c))
  conds-are =
      ap (λ (n : ℕ). in_order n (noted-line b notes)) conditions-are
      ∙ order_same b.conditions (λ c _. ap (cond_line c) (answered b notes right-notes c))

  totals-are : total_line mattered all ≡ total_line (mattered_count b) (all_occurrences b)
  totals-are =
      ap₂ total_line
      (mattered-is ∙ ap (λ (n : ℕ). sum n (λ q. size (length (b.rows q)) (noted notes q))) requirements-are ∙ counted b notes right-notes)
      (all-is ∙ ap (λ (n : ℕ). sum n (occurrence_count b)) requirements-are)

  parts_are :
      suite_line requirements runs ++ (in_order requirements (block_of b) ++ (in_order conditions (noted-line b notes) ++ total_line mattered all))
      ≡ sheet_text b
  unfolding sheet_text
  parts_are =
      ap₂ ◌++◌ (ap₂ suite_line requirements-are runs-are)
      (ap₂ ◌++◌ (ap (λ (n : ℕ). in_order n (block_of b)) requirements-are) (ap₂ ◌++◌ conds-are totals-are))

  whole :
      (before : List ℕ) {lined blocked answered after : List ℕ} → lined ≡ before ++ suite_line requirements runs →
      blocked ≡ lined ++ in_order requirements (block_of b) → answered ≡ blocked ++ in_order conditions (noted-line b notes) →
      after ≡ answered ++ total_line mattered all → after ≡ before ++ sheet_text b
  whole before head blocks conds total =
      regroup _ _ _ _ before head blocks conds total ∙ ap (λ (t : List ℕ). before ++ t) parts_are

pub put_blocks-requires : goal.put_blocks-requires
put_blocks-requires g c =
    let fits = c.well_formed in
    let requirements = c.args.requirements in
    let few : requirements.many.0 ≤ 16 = omega (arith, requirements.counted, requirements.ready.few_requirements) in
    (omega arith, omega (arith, c.put_suite_line.ensures.ends))

pub put_conds-requires : goal.put_conds-requires
put_conds-requires g c =
    let fits = c.well_formed in
    let requirements = c.args.requirements in
    let few : requirements.many.0 ≤ 16 = omega (arith, requirements.counted, requirements.ready.few_requirements) in
    let few_conditions : requirements.conditions.0 ≤ 32 = omega (arith, requirements.conditions_counted, requirements.ready.few_conditions) in
    (omega arith, omega (arith, c.put_suite_line.ensures.ends, c.put_blocks.ensures.ends))

pub put_total_line-requires : goal.put_total_line-requires
put_total_line-requires g c =
    let fits = c.well_formed in
    let requirements = c.args.requirements in
    let few : requirements.many.0 ≤ 16 = omega (arith, requirements.counted, requirements.ready.few_requirements) in
    let few_conditions : requirements.conditions.0 ≤ 32 = omega (arith, requirements.conditions_counted, requirements.ready.few_conditions) in (
      omega arith,
      (
        omega (arith, c.all_noted-some.ensures.1),
        omega (arith, c.all_occurrences-all.ensures.1),
        omega (arith, c.put_suite_line.ensures.ends, c.put_blocks.ensures.ends, c.put_conds.ensures.ends),
      ),
    )

pub returns : goal.returns
returns g c =
    let requirements = c.args.requirements in
    let runs = c.args.runs in
    whole (bench_of requirements.file.now runs.file.now) c.put_blocks.new.notes.cells c.put_blocks.ensures.suite_noted requirements.counted runs.counted
    requirements.conditions_counted c.all_noted-some.ensures.0 c.all_occurrences-all.ensures.0 c.args.page.now.text.items
    c.put_suite_line.ensures.puts c.put_blocks.ensures.puts c.put_conds.ensures.puts c.put_total_line.ensures.puts
