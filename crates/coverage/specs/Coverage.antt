-- Coverage of a pair of occurrence and run: document 01, "Coverage".
-- Assumes nothing.
use Rattle.std.specs.Prelude.{◌≡◌, Bool, true, false, not, cond, ◌&&◌, ◌||◌, List, [], ◌∷◌, ℕ, zero, suc, eqb, length, get_or, replicate}
use Rattle.std.proofs.Math.Bool.{So}
use Rattle.rows.specs.Rows.{Row, first, row_at}
use Rattle.rows.specs.Checks.{is_not}
pub use Rattle.signals.specs.Truth.{flip}
use Rattle.signals.specs.Truth.{Reading, verdict_of}

-- "the requirement holds of the run and some sequence of truth values of the run's length, read by that occurrence, makes it false"
pub record Covered (rows : List Row) (reads : Reading) (n p : ℕ) : Type 0 where
  pub held : So (verdict_of rows reads n)
  pub sequence : List Bool
  pub as_long : length sequence ≡ n
  pub false_by_it : So (not (verdict_of rows (flip p (λ i. get_or sequence i false) reads) n))

-- "not" stands over row p, in one of the rows below m
unfoldable pub negated : List Row → ℕ → ℕ → Bool
negated rows p zero = false
negated rows p (suc m) = (is_not (row_at rows m) && eqb (first (row_at rows m)) p) || negated rows p m

-- "all 0 for a plain occurrence, all 1 for one under 'not'": the value that the witness has at every step
abbrev pub witness_bit : List Row → ℕ → Bool
witness_bit rows p = negated rows p (length rows)

-- "one byte a step: all 0 for a plain occurrence, all 1 for one under 'not'"
abbrev pub witness_bytes : List Row → ℕ → ℕ → List ℕ
witness_bytes rows p steps = replicate steps (cond (witness_bit rows p) 1 0)

-- some sequence of n truth values passes a test
unfoldable pub some_sequence : ℕ → (List Bool → Bool) → Bool
some_sequence zero f = f []
some_sequence (suc n) f = some_sequence n (λ u. f (true ∷ u)) || some_sequence n (λ u. f (false ∷ u))

-- the same sentence as a test: held, and some sequence of the run's length makes it false
unfoldable pub covered : List Row → Reading → ℕ → ℕ → Bool
covered rows reads n p =
    verdict_of rows reads n && some_sequence n (λ u. not (verdict_of rows (flip p (λ i. get_or u i false) reads) n))
