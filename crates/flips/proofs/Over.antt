-- "Not" over a row: some row of the table is one that negates it.
-- Assumes nothing.
use mathlib.Core.Path.{◌≡◌, refl, sym, ◌∙◌, ap}
use mathlib.Core.Bool.{Bool, ◌&&◌, ◌||◌, or_comm}
use mathlib.Core.List.{List, []}
use Prim.Native.Nat.{ℕ, zero, suc, ◌≤◌}
use native.Mathlib.Omega.{arith}
use native.Mathlib.Numerals.{add-one}
use lib.Dec.{eqb}
use lib.ListN.{length, take}
use lib.Seq.{take-length}
use Rattle.std.specs.List.{list_any}
use Rattle.std.proofs.lemmas.List.Folds.{list_any_more}
use Rattle.rows.specs.Rows.{Row, first, row_at}
use Rattle.rows.specs.Checks.{is_not}
use Rattle.coverage.specs.Coverage.{negated, witness_bit}

abbrev pub over : ℕ → Row → Bool
over p row = is_not row && eqb (first row) p

over_below : (rows : List Row) (p m : ℕ) → m ≤ length rows → list_any (over p) (take m rows) ≡ negated rows p m
unfolding negated
over_below rows p zero l = refl
over_below rows p (suc m) l =
    ap (λ (n : ℕ). list_any (over p) (take n rows)) (sym (add-one m))
    ∙ list_any_more (over p) rows m [] (omega arith)
    ∙ or_comm (list_any (over p) (take m rows)) (over p (row_at rows m))
    ∙ ap (λ (b : Bool). over p (row_at rows m) || b) (over_below rows p m (omega arith))

pub over_any : (rows : List Row) (p : ℕ) → list_any (over p) rows ≡ witness_bit rows p
over_any rows p = ap (list_any (over p)) (sym (take-length rows)) ∙ over_below rows p (length rows) (omega arith)
