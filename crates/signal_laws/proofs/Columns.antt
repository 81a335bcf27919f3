-- The column engine: a column grows by one value; and a column that is right for a step, from one that is right for the next.
-- Assumes nothing.
use Rattle.std.specs.Prelude.{Option, Some, None}
use mathlib.Core.Path.{◌≡◌, refl, sym, ◌∙◌, ap, subst}
use mathlib.Core.Bool.{Bool, true, false, cond}
use mathlib.Core.List.{List}
use Prim.Native.Nat.{ℕ, suc, ◌+◌, ◌<◌, ◌≤◌}
use native.Mathlib.Omega.{arith}
use native.Mathlib.Decide.{ℕ_discrete}
use borrow.Author.Tests.{eqb-false}
use lib.Dec.{eqb}
use lib.ListN.{length, get_or, set}
use lib.Seq.{get_or-set_same, get_or-set_other}
use Rattle.rows.specs.declared.Kind.{Kind}
use Rattle.rows.specs.Rows.{Row, kind, first, second, row_at, named}
use Rattle.rows.specs.Checks.{All}
use Rattle.figures.specs.declared.RowNumber.{RowNumber}
use Rattle.signals.specs.Signals.{Signal}
use Rattle.signals.specs.Truth.{Reading, own_of, reads_of, truth_of, sequence_of}
use Rattle.signals.specs.Column.{cell, cell_of, Cells, FitIn, own_by, reads_at, reading_of}
use Rattle.signal_laws.proofs.Model.{AllMap, Lower, lower_induction, truth_model}
use Rattle.signal_laws.proofs.Cells.{row_cell, cell_cong, cell_last}

module _ {width : ℕ} (rows : List Row) (own : ℕ → Bool) (after : List Bool) (last : Bool) (fit : FitIn width rows) where
  -- a value stored at m changes no cell of a row up to m
  stored :
      (here : List Bool) (m : ℕ) (x : Bool) (r : ℕ) → r < length rows → r ≤ m →
      cell_of (row_at rows r) (own r) here after r last ≡ cell_of (row_at rows r) (own r) (set here m x) after r last
  stored here m x r l h =
      cell_cong (kind (row_at rows r)) (own r) (get_or after r false) last (λ k. get_or here k false) (λ k. get_or (set here m x) k false)
      (λ k. get_or after k false) (λ k. get_or after k false) (first (row_at rows r)) (second (row_at rows r))
      (AllMap (named (row_at rows r)) (λ k q. (sym (get_or-set_other here m k x false (λ e. omega arith)), refl)) (fit.lower r l))

  pub grown :
      (here : List Bool) (m : ℕ) (x : Bool) → m < length rows → length here ≡ width → Cells rows own after last here m →
      x ≡ cell_of (row_at rows m) (own m) here after m last → Cells rows own after last (set here m x) (m + 1)
  grown here m x l size cells e r h = go (ℕ_discrete r m)
    where
      go : Dec (r ≡ m) → get_or (set here m x) r false ≡ cell_of (row_at rows r) (own r) (set here m x) after r last
      go (yes q) =
          subst (λ (k : ℕ). get_or (set here m x) k false ≡ cell_of (row_at rows k) (own k) (set here m x) after k last) (sym q)
          (get_or-set_same here m x false (omega (arith, fit.few)) ∙ e ∙ stored here m x m l (omega arith))
      go (no q) =
          get_or-set_other here m r x false q ∙ cells r (omega arith) ∙ stored here m x r (omega arith) (omega arith)

-- a cell is the row's truth at a step if its values are true: those of the rows named, and those of the step ahead where there is one
pub cell_true :
    (rows : List Row) (reads : Reading) (n i r : ℕ) → Lower rows → i < n → r < length rows → (here ahead : ℕ → Bool) (next : Bool) →
    All (λ j. (here j ≡ truth_of rows reads n j i) × (suc i < n → ahead j ≡ truth_of rows reads n j (suc i))) (named (row_at rows r)) →
    (suc i < n → next ≡ truth_of rows reads n r (suc i)) →
    cell (kind (row_at rows r)) (reads r i) (here (first (row_at rows r))) (here (second (row_at rows r))) (ahead (first (row_at rows r))) next (eqb (suc i) n)
    ≡ truth_of rows reads n r i
cell_true rows reads n i r lower l lr here ahead next below is_next =
    go (eqb (suc i) n) refl ∙ sym (row_cell n i l truth (reads r) K a b (truth r) (truth_model rows reads n lower r lr))
  where
    truth : ℕ → Signal
    truth = truth_of rows reads n

    K : Kind
    K = kind (row_at rows r)

    a : ℕ
    a = first (row_at rows r)

    b : ℕ
    b = second (row_at rows r)

    go :
        (z : Bool) → eqb (suc i) n ≡ z →
        cell K (reads r i) (here a) (here b) (ahead a) next z ≡ cell K (reads r i) (truth a i) (truth b i) (truth a (suc i)) (truth r (suc i)) z
    go true e =
        cell_last K (reads r i) _ _ _ _ _ _
        ∙ cell_cong K (reads r i) (truth r (suc i)) true here (λ j. truth j i) (λ j. truth j (suc i)) (λ j. truth j (suc i)) a b
        (AllMap (named (row_at rows r)) (λ j q. (q.0, refl)) below)
    go false e =
        let d = eqb-false (suc i) n e in
        ap (λ (x : Bool). cell K (reads r i) (here a) (here b) (ahead a) x false) (is_next (omega arith))
        ∙ cell_cong K (reads r i) (truth r (suc i)) false here (λ j. truth j i) ahead (λ j. truth j (suc i)) a b
        (AllMap (named (row_at rows r)) (λ j q. (q.0, q.1 (omega arith))) below)

-- a column has the truth of every row at step i
abbrev pub Right : List Row → Reading → ℕ → ℕ → List Bool → Type 0
Right rows reads n i here = (r : ℕ) → r < length rows → get_or here r false ≡ truth_of rows reads n r i

pub one_step :
    {width : ℕ} (rows : List Row) (fit : FitIn width rows) (reads : Reading) (n i : ℕ) (l : i < n) (here after : List Bool)
    (own : ℕ → Bool) → ((r : ℕ) → own r ≡ reads r i) → Cells rows own after (eqb (suc i) n) here (length rows) →
    (suc i < n → Right rows reads n (suc i) after) → Right rows reads n i here
one_step rows fit reads n i l here after own same cells next = lower_induction rows fit.lower _ step
  where
    step :
        (r : ℕ) → r < length rows → All (λ k. (k < r) × (get_or here k false ≡ truth_of rows reads n k i)) (named (row_at rows r)) →
        get_or here r false ≡ truth_of rows reads n r i
    step r lr below =
        cells r lr
        ∙ ap (λ (x : Bool). cell_of (row_at rows r) x here after r (eqb (suc i) n)) (same r)
        ∙ cell_true rows reads n i r fit.lower l lr (λ k. get_or here k false) (λ k. get_or after k false) (get_or after r false)
        (AllMap (named (row_at rows r)) (λ k q. let m = q.0 in (q.1, λ h. next h k (omega arith))) below) (λ h. next h r lr)

-- what the rows read at a step is their reading at that step
pub read_there :
    (rows : List Row) (run : List ℕ) (f : Option RowNumber) (sequence : List ℕ) (i r : ℕ) →
    own_by rows (reads_at (get_or run i 0) f sequence i) r ≡ reading_of rows run f sequence r i
read_there rows run None sequence i r = refl
read_there rows run (Some p) sequence i r = go (eqb r p.0)
  where
    go : (b : Bool) → cond b (sequence_of sequence i) (own_of rows (get_or run i 0) r) ≡ cond b (sequence_of sequence) (reads_of rows run r) i
    go true = refl
    go false = refl
