-- A row's line being written from the block's last step to its first: what stands in the lines after one step more.
-- Assumes nothing.
use mathlib.Core.Path.{◌≡◌, refl, sym, ◌∙◌, subst}
use mathlib.Core.Bool.{cond, ◌&&◌}
use mathlib.Core.List.{List}
use Prim.Native.Nat.{ℕ, suc, ◌+◌, ◌*◌, ◌<◌, ◌≤◌}
use native.Mathlib.Omega.{arith}
use native.Mathlib.Decide.{ℕ_discrete}
use borrow.Author.Tests.{ne_eqb}
use lib.Dec.{eqb}
use lib.ListN.{length, get_or, set, length-set}
use lib.Seq.{get_or-set_same, get_or-set_other}
use Rattle.lengths.specs.Lengths.{most_requirement_rows}
use Rattle.rows.specs.declared.Kind.{Kind}
use Rattle.signals.specs.Truth.{bit}
use Rattle.signals.specs.Column.{cell}
use Rattle.lanes.specs.Lanes.{lane_count, lane}
use Rattle.row_lines.specs.declared.Line.{Line}
use Rattle.row_lines.specs.RowLines.{block_steps, block_words, line_at, ahead_at, CellAt, Lined}

-- a step of the block is not the one after it
pub ahead_inside : (steps after : ℕ) (lines : List ℕ) (r t : ℕ) → t < steps → ahead_at steps after lines r t ≡ line_at lines r t
ahead_inside steps after lines r t l = rw (ne_eqb t steps (λ e. omega arith))

module _ (lines : List ℕ) (row t v : ℕ) where
  abbrev pub put : List ℕ
  put = set lines (block_steps * row + t) v

  pub put_same : row < most_requirement_rows → t < block_steps → length lines ≡ block_words → line_at put row t ≡ v
  put_same inside l size = get_or-set_same lines (block_steps * row + t) v 0 (omega arith)

  put_other : t < block_steps → (r t' : ℕ) → t' < block_steps → (r ≡ row → t' ≡ t → ⊥) → line_at put r t' ≡ line_at lines r t'
  put_other l r t' l' d = get_or-set_other lines (block_steps * row + t) (block_steps * r + t') v 0 (λ e. d (omega arith) (omega arith))

  put_later : (t' : ℕ) → t < t' → line_at put row t' ≡ line_at lines row t'
  put_later t' l = get_or-set_other lines (block_steps * row + t) (block_steps * row + t') v 0 (λ e. omega arith)

-- the line is written from step t on, and nothing else is
pub record Passed (kind : Kind) (line : Line) (words : List ℕ) (steps : ℕ) (before lines : List ℕ) (t : ℕ) : Type 0 where
  pub size : length lines ≡ block_words
  pub kept : (r t' : ℕ) → t' < block_steps → (r ≡ line.row → t' < t) → line_at lines r t' ≡ line_at before r t'
  pub cells : (t' : ℕ) → t ≤ t' → t' < steps → CellAt kind line words steps before lines t'

module _ (kind : Kind) (line : Line) (words : List ℕ) (steps : ℕ) (before : List ℕ) where
  -- one step more: the value is the row's cell in every lane, by words that are those of the lines
  pub step_passed :
      (lines : List ℕ) (t v own a b a_next next ends : ℕ) → line.row < most_requirement_rows → steps ≤ block_steps → t < steps →
      Passed kind line words steps before lines (suc t) →
      ((k : ℕ) → k < lane_count → lane v k ≡ cell kind (lane own k) (lane a k) (lane b k) (lane a_next k) (lane next k) (lane ends k)) →
      ((k : ℕ) → k < lane_count → lane own k ≡ cond (lane line.keep k) (bit (get_or words t 0) line.first) (lane line.flips k)) →
      a ≡ line_at before line.first t → b ≡ line_at before line.second t →
      a_next ≡ ahead_at steps line.first_after before line.first (suc t) →
      next ≡ ahead_at steps line.row_after lines line.row (suc t) →
      ((k : ℕ) → k < lane_count → lane ends k ≡ (line.last && eqb (suc t) steps)) →
      Passed kind line words steps before (put lines line.row t v) t
  step_passed lines t v own a b a_next next ends inside few l p value is_own is_a is_b is_a_next is_next is_ends =
      record {
        size = length-set lines (block_steps * line.row + t) v ∙ p.size;
        kept =
            λ r t' l' h.
            put_other lines line.row t v (omega arith) r t' l' (λ e e'. let m = h e in omega arith)
            ∙ p.kept r t' l' (λ e. let m = h e in omega arith);
        cells = λ t' from to. go t' from to (ℕ_discrete t' t);
      }
    where
      go : (t' : ℕ) → t ≤ t' → t' < steps → Dec (t' ≡ t) → CellAt kind line words steps before (put lines line.row t v) t'
      go t' from to (yes e) =
          subst (λ (u : ℕ). CellAt kind line words steps before (put lines line.row t v) u) (sym e)
          (λ k lk.
          rw (put_same lines line.row t v inside (omega arith) p.size, put_later lines line.row t v (suc t) (omega arith))
          (value k lk ∙ rw (is_own k lk, is_a, is_b, is_a_next, is_next, is_ends k lk)))
      go t' from to (no d) =
          λ k lk.
          rw (put_later lines line.row t v t' (omega arith), put_later lines line.row t v (suc t') (omega arith))
          (p.cells t' (omega arith) to k lk)
