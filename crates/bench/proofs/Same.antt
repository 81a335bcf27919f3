-- Two benches that agree on their counts, requirements and runs give the same lists and the same sheet.
-- Assumes nothing.
use mathlib.Core.Path.{◌≡◌, ◌∙◌, ap, ap₂}
use mathlib.Core.Bool.{Bool, cond, ◌&&◌}
use mathlib.Core.List.{List, [], ◌∷◌, ◌++◌}
use Prim.Native.Nat.{ℕ, ◌<◌}
use lib.Dec.{eqb}
use lib.ListN.{length}
use Rattle.rows.specs.Rows.{Row, first, row_at}
use Rattle.rows.specs.Checks.{condition_at, occurrences}
use Rattle.signals.specs.Signals.{some}
use Rattle.signals.specs.Truth.{reads_of, holds}
use Rattle.coverage.specs.Coverage.{covered}
use Rattle.bench.specs.declared.ConditionAnswer.TheVariants as answer
use Rattle.bench.specs.Coverage.{Bench, size, pair_covered, occurrence_count, held_of, mattered, mattered_count, all_occurrences, reads_condition, pairs_listed, list_bytes}
use Rattle.bench.specs.Sheet.{suite_line, req_line, cov_line, block_of, answer_of, cond_line, total_line, sheet_text}
use Rattle.bench.proofs.Alike.{order_same, sum_same, some_same, below_same, listed_same}

pub record Agree (a b : Bench) : Type 0 where
  pub conditions : a.conditions ≡ b.conditions
  pub requirements : a.requirements ≡ b.requirements
  pub runs : a.runs ≡ b.runs
  pub rows : (q : ℕ) → q < a.requirements → a.rows q ≡ b.rows q
  pub words : (j : ℕ) → j < a.runs → a.words j ≡ b.words j

-- one's counts with the other's requirements and runs
abbrev counted : Bench → Bench → Bench
counted a b =
    record {
      conditions = a.conditions;
      requirements = a.requirements;
      rows = b.rows;
      runs = a.runs;
      words = b.words;
    }

module _ {a b : Bench} (same : Agree a b) where
  counts : counted a b ≡ b
  counts = rw (same.conditions, same.requirements, same.runs)

  module _ (q : ℕ) (q_in : q < a.requirements) where
    abbrev at : {A : Type 0} (f : List Row → A) → f (a.rows q) ≡ f (b.rows q)
    at f = ap f (same.rows q q_in)

    pair_same : (p j : ℕ) → j < a.runs → pair_covered a q p j ≡ pair_covered b q p j
    pair_same p j l = ap₂ (λ (r : List Row) (w : List ℕ). covered r (reads_of r w) (length w) p) (same.rows q q_in) (same.words j l)

    pairs_same :
        (says : ℕ → ℕ → List ℕ) → pairs_listed (a.rows q) a.runs (pair_covered a q) says ≡ pairs_listed (b.rows q) a.runs (pair_covered b q) says
    pairs_same says =
        listed_same (a.rows q) a.runs says (λ p j _ _ l. pair_same p j l)
        ∙ at (λ (r : List Row). pairs_listed r a.runs (pair_covered b q) says)

    pub list_same : list_bytes a q ≡ list_bytes b q
    list_same = pairs_same (λ o j. o ∷ j ∷ []) ∙ ap (λ (c : Bench). list_bytes c q) counts

    occurrences_same : occurrence_count a q ≡ occurrence_count b q
    occurrences_same = at (λ (r : List Row). length (occurrences r))

    held_same : held_of (a.rows q) a.runs a.words ≡ held_of (b.rows q) a.runs b.words
    held_same = ap length (below_same a.runs (λ j l. ap₂ holds (same.rows q q_in) (same.words j l)))

    block_same : block_of a q ≡ block_of (counted a b) q
    block_same = ap₂ ◌++◌ (ap₂ (req_line q) occurrences_same held_same) (pairs_same (cov_line q))

    mattered_same : (p : ℕ) → mattered a q p ≡ mattered (counted a b) q p
    mattered_same p = ap₂ ◌&&◌ (at (λ (r : List Row). condition_at r p)) (some_same a.runs (pair_same p))

    mattered_count_same : size (length (a.rows q)) (mattered a q) ≡ size (length (b.rows q)) (mattered (counted a b) q)
    mattered_count_same =
        ap length (below_same (length (a.rows q)) (λ p _. mattered_same p))
        ∙ at (λ (r : List Row). size (length r) (mattered (counted a b) q))

    reads_same : (c p : ℕ) → reads_condition a c q p ≡ reads_condition b c q p
    reads_same c p = at (λ (r : List Row). condition_at r p && eqb (first (row_at r p)) c)

    read_same : (c : ℕ) → some (length (a.rows q)) 0 (reads_condition a c q) ≡ some (length (b.rows q)) 0 (reads_condition b c q)
    read_same c =
        some_same (length (a.rows q)) (λ p _. reads_same c p)
        ∙ at (λ (r : List Row). some (length r) 0 (reads_condition b c q))

    covered_same :
        (c : ℕ) →
        some (length (a.rows q)) 0 (λ p. reads_condition a c q p && mattered a q p)
        ≡ some (length (b.rows q)) 0 (λ p. reads_condition b c q p && mattered (counted a b) q p)
    covered_same c =
        some_same (length (a.rows q)) (λ p _. ap₂ ◌&&◌ (reads_same c p) (mattered_same p))
        ∙ at (λ (r : List Row). some (length r) 0 (λ p. reads_condition b c q p && mattered (counted a b) q p))

  answer_same : (c : ℕ) → answer_of a c ≡ answer_of (counted a b) c
  answer_same c =
      ap₂ (λ (x y : Bool). cond x (cond y answer.Yes answer.No) answer.Unused)
      (some_same a.requirements (λ q l. read_same q l c)) (some_same a.requirements (λ q l. covered_same q l c))

  total_same : total_line (mattered_count a) (all_occurrences a) ≡ total_line (mattered_count (counted a b)) (all_occurrences (counted a b))
  total_same = ap₂ total_line (sum_same a.requirements mattered_count_same) (sum_same a.requirements occurrences_same)

  pub sheet_same : sheet_text a ≡ sheet_text b
  unfolding sheet_text
  sheet_same =
      ap (λ (l : List ℕ). suite_line a.requirements a.runs ++ l)
      (ap₂ ◌++◌ (order_same a.requirements block_same)
      (ap₂ ◌++◌ (order_same a.conditions (λ c _. ap (cond_line c) (answer_same c))) total_same))
      ∙ ap sheet_text counts
