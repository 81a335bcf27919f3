-- `columns::column` meets its contract: the values stored are those of their rows.
use native.Mathlib.Omega.{arith}
use mathlib.Core.Path.{◌≡◌, refl, ◌∙◌, ap}
use mathlib.Core.Bool.{Bool, false}
use Prim.Native.Nat.{ℕ}
use lib.ListN.{get_or}
use mathlib.Core.List.{List}
use Rattle.rows.specs.declared.Kind.{Kind}
use Rattle.rows.specs.declared.Kind.TheVariants.{False, True, Condition, Not, And, Or, StrongNext, WeakNext, Until, Release, Finally, Globally, WeakUntil, Unknown}
use Rattle.rows.specs.Rows.{Row, kind, first, second, row_at}
use Rattle.signals.specs.Column.{cell, cell_of, read_of, own_by}
use Rattle.signal_laws.proofs.Columns.{grown}
use Rattle.signals.specs.declared.Reads.{Reads}
use Rattle.std.proofs.Common.{rules}
use Rattle.columns.proofs.column.Goals as goal

-- what a row reads counts at a condition row alone
read_alone :
    (k : Kind) {own own' : Bool} (a b x y last : Bool) → (k ≡ Condition → own ≡ own') → cell k own a b x y last ≡ cell k own' a b x y last
read_alone False a b x y last e = refl
read_alone True a b x y last e = refl
read_alone Condition a b x y last e = e refl
read_alone Not a b x y last e = refl
read_alone And a b x y last e = refl
read_alone Or a b x y last e = refl
read_alone StrongNext a b x y last e = refl
read_alone WeakNext a b x y last e = refl
read_alone Until a b x y last e = refl
read_alone Release a b x y last e = refl
read_alone Finally a b x y last e = refl
read_alone Globally a b x y last e = refl
read_alone WeakUntil a b x y last e = refl
read_alone Unknown a b x y last e = refl

-- the kind and the fields that index the columns are the row's own
read_at :
    (rows : List Row) (reads : Reads) (here after : List Bool) (last : Bool) (r : ℕ) {k : Kind} {f s : ℕ} {own : Bool} →
    k ≡ kind (row_at rows r) → f ≡ first (row_at rows r) → s ≡ second (row_at rows r) → (k ≡ Condition → own ≡ read_of reads f r) →
    cell k own (get_or here f false) (get_or here s false) (get_or after f false) (get_or after r false) last
    ≡ cell_of (row_at rows r) (own_by rows reads r) here after r last
read_at rows reads here after last r {k} e p q o = read_alone k _ _ _ _ last o ∙ rw (e, p, q)

pub loop-r-preserved : goal.loop-r-preserved
loop-r-preserved c =
    let q = c.loop-r in
    let a = c.args in
    let value = c.cell.ensures 0 (omega arith) ∙ read_at a.rows.now a.reads q.here a.after.now a.last q.r (c.requires.kinds q.r (omega arith)) c.from-first.ensures c.from-second.ensures c.own_of-own.ensures in (
      search rules,
      grown a.rows.now (own_by a.rows.now a.reads) a.after.now a.last c.requires.fit q.here q.r c.cell.result (omega arith) q.invariant.0
          q.invariant.1 value,
    )
