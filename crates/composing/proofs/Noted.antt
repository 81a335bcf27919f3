-- Notes made from marks: those of one requirement are right, those of one requirement more, and what they count and answer.
-- Assumes nothing.
use mathlib.Core.Path.{◌≡◌, refl, ◌∙◌, ap}
use mathlib.Core.Bool.{Bool, true, false, ◌&&◌}
use mathlib.Core.List.{List}
use Prim.Native.Nat.{ℕ, zero, suc, ◌+◌, ◌≤◌, ◌<◌}
use native.Mathlib.Decide.{ℕ_discrete}
use native.Mathlib.Omega.{arith}
use lib.ListN.{length}
use Rattle.lengths.specs.Lengths.{most_requirement_rows}
use Rattle.rows.specs.Rows.{Row}
use Rattle.rows.specs.Checks.{condition_at}
use Rattle.signals.specs.Signals.{some}
use Rattle.bench.specs.declared.ConditionAnswer.{ConditionAnswer}
use Rattle.bench.specs.Coverage.{Bench, size, sum, covered_of, mattered, mattered_count, reads_condition, condition_read}
use Rattle.bench.specs.Sheet.{answer_by, answer_of}
use Rattle.bench.specs.Tables.{noted, Marked, RowNoted, RequirementNoted, SuiteNoted}
use Rattle.bench.proofs.Alike.{sum_same, some_same, below_same}

some_and : (b : Bool) (m i : ℕ) (f : ℕ → Bool) → some m i (λ j. b && f j) ≡ (b && some m i f)
unfolding some
some_and true m i f = refl
some_and false zero i f = refl
some_and false (suc m) i f = some_and false m (suc i) f

-- the marks of a requirement's rows, noted
pub requirement_noted :
    {rows : List Row} {words : ℕ → List ℕ} {runs q : ℕ} {marks before after : List Bool} → Marked rows words runs marks →
    RowNoted marks runs q (length rows) before after → RequirementNoted rows runs words q before after
requirement_noted {rows} {words} {runs} right h =
    record {
      here = λ p l. h.here p l ∙ some_same runs (λ j g. right p j l g) ∙ some_and (condition_at rows p) runs 0 (covered_of rows words p);
      others = h.others;
    }

-- one requirement more
pub suite_more :
    (b : Bench) {q : ℕ} {before after : List Bool} → ((r : ℕ) → r < q → length (b.rows r) ≤ most_requirement_rows) → SuiteNoted b q before →
    RequirementNoted (b.rows q) b.runs b.words q before after → SuiteNoted b (q + 1) after
suite_more b {q} {before} {after} few right h r p lr lp = go (ℕ_discrete r q)
  where
    go : Dec (r ≡ q) → noted after r p ≡ mattered b r p
    go (yes e) = rw e (h.here p (rw e at lp))
    go (no e) = h.others r p (omega (arith, few r (omega arith))) e ∙ right r p (omega arith) lp

-- what notes say of a condition, by so many requirements
abbrev pub noted_answer : Bench → List Bool → ℕ → ℕ → ConditionAnswer
noted_answer b notes c m =
    answer_by
    (some m 0 (λ q. some (length (b.rows q)) 0 (reads_condition b c q)))
    (some m 0 (λ q. some (length (b.rows q)) 0 (λ p. reads_condition b c q p && noted notes q p)))

module _ (b : Bench) (notes : List Bool) (right : SuiteNoted b b.requirements notes) where
  pub counted : sum b.requirements (λ q. size (length (b.rows q)) (noted notes q)) ≡ mattered_count b
  counted = sum_same b.requirements (λ q l. ap length (below_same (length (b.rows q)) (λ p g. right q p l g)))

  pub answered : (c : ℕ) → noted_answer b notes c b.requirements ≡ answer_of b c
  answered c =
      ap (answer_by (condition_read b c))
      (some_same b.requirements
      (λ q l. some_same (length (b.rows q)) (λ p g. ap (λ (t : Bool). reads_condition b c q p && t) (right q p l g))))
