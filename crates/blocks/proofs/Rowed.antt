-- A block, one row more: where the lines of the lower rows are true and the row's own is written, that is true too.
-- Assumes nothing.
use mathlib.Core.Path.{◌≡◌, sym, ◌∙◌, subst}
use mathlib.Core.Bool.{Bool, ◌&&◌, and-true, and-false}
use mathlib.Core.List.{List}
use Prim.Native.Nat.{ℕ, zero, suc, ◌+◌, ◌-◌, ◌<◌, ◌≤◌}
use native.Mathlib.Omega.{arith}
use native.Mathlib.Decide.{ℕ_discrete}
use borrow.Author.Tests.{eq-eqb, ne_eqb}
use lib.Dec.{eqb}
use lib.ListN.{length, get_or}
use Rattle.lengths.specs.Lengths.{most_requirement_rows}
use Rattle.rows.specs.declared.Kind.{Kind}
use Rattle.rows.specs.Rows.{Row, kind, first, second, row_at, named}
use Rattle.signals.specs.Signals.{Signal}
use Rattle.signals.specs.Truth.{Reading, truth_of}
use Rattle.signals.specs.Column.{FitIn}
use Rattle.signal_laws.proofs.Model.{AllMap}
use Rattle.signal_laws.proofs.Columns.{cell_true}
use Rattle.lanes.specs.Lanes.{lane_count, lane}
use Rattle.row_lines.specs.declared.Line.{Line}
use Rattle.row_lines.specs.RowLines.{block_steps, line_at, ahead_at, Lined}
use Rattle.blocks.specs.Blocks.{lane_reads, ColumnTrue, LineTrue, BlockTrue}

-- row r as it is to be judged over a block, f and s its fields
abbrev pub line_of : List ℕ → List ℕ → List ℕ → Bool → ℕ → ℕ → ℕ → Line
line_of keep flips after last r f s =
    record {
      row = r;
      first = f;
      second = s;
      keep = get_or keep r 0;
      flips = get_or flips r 0;
      first_after = get_or after f 0;
      row_after = get_or after r 0;
      last = last;
    }

-- a step is the run's last where it is the block's last and no step comes after the block
last_there : (i t steps n : ℕ) → t < steps → i + steps ≤ n → (eqb (i + steps) n && eqb (suc t) steps) ≡ eqb (suc (i + t)) n
last_there i t steps n l fits = go (ℕ_discrete (suc t) steps)
  where
    go : Dec (suc t ≡ steps) → (eqb (i + steps) n && eqb (suc t) steps) ≡ eqb (suc (i + t)) n
    go (yes e) =
        let m : i + steps ≡ suc (i + t) = omega arith in
        rw (eq-eqb (suc t) steps e, and-true (eqb (i + steps) n), m)
    go (no d) = rw (ne_eqb (suc t) steps d, and-false (eqb (i + steps) n), ne_eqb (suc (i + t)) n (λ e. omega arith))

module _
    (rows : List Row) (fit : FitIn most_requirement_rows rows) (keep flips after words : List ℕ) (steps : ℕ) (run : List ℕ) (i : ℕ)
    (fits : i + steps ≤ length run) (same : (t : ℕ) → t < steps → get_or words t 0 ≡ get_or run (i + t) 0)
    (next : i + steps < length run → ColumnTrue rows keep flips run (i + steps) after) (k : ℕ) (lk : k < lane_count) where
  abbrev reads : Reading
  reads = lane_reads rows keep flips run k

  abbrev truth : ℕ → Signal
  truth = truth_of rows reads (length run)

  -- the word ahead of a step is true if there is a step ahead
  ahead_true :
      (lines : List ℕ) (r t : ℕ) → r < length rows → t < steps → suc (i + t) < length run →
      (suc t < steps → lane (line_at lines r (suc t)) k ≡ truth r (i + suc t)) →
      lane (ahead_at steps (get_or after r 0) lines r (suc t)) k ≡ truth r (suc (i + t))
  ahead_true lines r t lr l inside later = go (ℕ_discrete (suc t) steps)
    where
      go : Dec (suc t ≡ steps) → lane (ahead_at steps (get_or after r 0) lines r (suc t)) k ≡ truth r (suc (i + t))
      go (yes e) =
          let m : i + steps ≡ suc (i + t) = omega arith in
          rw (eq-eqb (suc t) steps e, ← m) (next (omega arith) r lr k lk)
      go (no d) =
          let m : i + suc t ≡ suc (i + t) = omega arith in
          rw (ne_eqb (suc t) steps d, ← m) (later (omega arith))

  module _
      (before lines : List ℕ) (r : ℕ) (lr : r < length rows)
      (wrote :
      Lined (kind (row_at rows r)) (line_of keep flips after (eqb (i + steps) (length run)) r (first (row_at rows r)) (second (row_at rows r)))
      words steps before lines)
      (below : (j : ℕ) → j < r → LineTrue rows keep flips run i steps before j) where
    -- the row's word at a step is true if the one ahead of it is
    step_true :
        (t : ℕ) → t < steps → (suc t < steps → lane (line_at lines r (suc t)) k ≡ truth r (i + suc t)) →
        lane (line_at lines r t) k ≡ truth r (i + t)
    step_true t l later =
        wrote.cells t l k lk
        ∙ rw (last_there i t steps (length run) l fits, same t l)
        (cell_true rows reads (length run) (i + t) r fit.lower (omega arith) lr (λ j. lane (line_at before j t) k)
        (λ j. lane (ahead_at steps (get_or after j 0) before j (suc t)) k) _
        (AllMap (named (row_at rows r))
        (λ j m. (below j m t l k lk, λ h. ahead_true before j t (omega arith) l h (λ l'. below j m (suc t) l' k lk))) (fit.lower r lr))
        (λ h. ahead_true lines r t lr l h later))

    line_true : (t : ℕ) → t < steps → lane (line_at lines r t) k ≡ truth r (i + t)
    line_true t l = go (steps - suc t) t (omega arith)
      where
        go : (m t : ℕ) → suc t + m ≡ steps → lane (line_at lines r t) k ≡ truth r (i + t)
        go zero t e = step_true t (omega arith) (λ h. absurd (omega arith))
        go (suc m) t e = step_true t (omega arith) (λ h. go m (suc t) (omega arith))

-- one row more
pub row_more :
    (rows : List Row) (keep flips after : List ℕ) (last : Bool) (words : List ℕ) (steps : ℕ) (before lines : List ℕ) (r : ℕ) {m : Kind} {f s : ℕ} →
    FitIn most_requirement_rows rows → steps ≤ block_steps → r < length rows → m ≡ kind (row_at rows r) → f ≡ first (row_at rows r) → s ≡ second (row_at rows r) →
    Lined m (line_of keep flips after last r f s) words steps before lines →
    BlockTrue rows keep flips after last words steps before r → BlockTrue rows keep flips after last words steps lines (r + 1)
row_more rows keep flips after last words steps before lines r fit few lr is_kind is_first is_second wrote below run i fits is_last same next r' l' =
    go (ℕ_discrete r' r)
  where
    go : Dec (r' ≡ r) → LineTrue rows keep flips run i steps lines r'
    go (yes e) =
        subst (λ (j : ℕ). LineTrue rows keep flips run i steps lines j) (sym e)
        (λ t l k lk.
        line_true rows fit keep flips after words steps run i fits same next k lk before lines r lr (rw (is_kind, is_last, is_first, is_second) at wrote)
        (below run i fits is_last same next) t l)
    go (no d) = λ t l k lk. rw (wrote.others r' t (omega arith) d) (below run i fits is_last same next r' (omega arith) t l k lk)
