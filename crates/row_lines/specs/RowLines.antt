-- A row over a block of steps: its words at the block's steps are its line. Nobody needs to believe this page.
-- Assumes nothing.
use Rattle.std.specs.Prelude.{◌≡◌, cond, ◌&&◌, List, ℕ, suc, ◌+◌, ◌*◌, ◌<◌, eqb, length, get_or}
use Rattle.lengths.specs.Lengths.{most_requirement_rows}
use Rattle.rows.specs.declared.Kind.{Kind}
use Rattle.signals.specs.Truth.{bit}
use Rattle.signals.specs.Column.{cell}
use Rattle.lanes.specs.Lanes.{lane_count, lane}
use Rattle.row_lines.specs.declared.Line.{Line}

-- the most steps of a block, and the words of all lines
abbrev pub block_steps : ℕ
block_steps = 64

abbrev pub block_words : ℕ
block_words = block_steps * most_requirement_rows

-- the word of row r at step t of a block
abbrev pub line_at : List ℕ → ℕ → ℕ → ℕ
line_at lines r t = get_or lines (block_steps * r + t) 0

-- the same, where the step after the block's steps may be meant: then the word is given
abbrev pub ahead_at : ℕ → ℕ → List ℕ → ℕ → ℕ → ℕ
ahead_at steps after lines r t = cond (eqb t steps) after (line_at lines r t)

-- a line that fits into a block's lines
pub record Fits (line : Line) : Type 0 where
  pub row_inside : line.row < most_requirement_rows
  pub first_inside : line.first < most_requirement_rows
  pub second_inside : line.second < most_requirement_rows

-- a row's word at step t is its cell in every lane, from the lines before its own was written
abbrev pub CellAt : Kind → Line → List ℕ → ℕ → List ℕ → List ℕ → ℕ → Type 0
CellAt kind line words steps before after t =
    (k : ℕ) → k < lane_count →
    lane (line_at after line.row t) k
    ≡ cell kind (cond (lane line.keep k) (bit (get_or words t 0) line.first) (lane line.flips k))
    (lane (line_at before line.first t) k) (lane (line_at before line.second t) k)
    (lane (ahead_at steps line.first_after before line.first (suc t)) k) (lane (ahead_at steps line.row_after after line.row (suc t)) k)
    (line.last && eqb (suc t) steps)

-- the lines of the other rows are as they were
abbrev pub OthersSame : ℕ → List ℕ → List ℕ → Type 0
OthersSame row before after = (r t : ℕ) → t < block_steps → (r ≡ row → ⊥) → line_at after r t ≡ line_at before r t

-- what is written of a row
pub record Lined (kind : Kind) (line : Line) (words : List ℕ) (steps : ℕ) (before after : List ℕ) : Type 0 where
  pub size : length after ≡ block_words
  pub cells : (t : ℕ) → t < steps → CellAt kind line words steps before after t
  pub others : OthersSame line.row before after
