-- `columns::judge` meets its contract: after each turn the later column is right for the step in hand.
use native.Mathlib.Omega.{arith}
use mathlib.Core.Path.{◌≡◌, refl, sym, ◌∙◌, ap, subst}
use Prim.Native.Nat.{ℕ, suc, ◌-◌}
use native.Mathlib.Numerals.{add-one}
use lib.ListN.{length}
use Rattle.signal_laws.proofs.Columns.{Right, one_step, read_there}
use Rattle.signals.specs.Column.{own_by, reading_of}
use Rattle.columns.proofs.judge.Goals as goal

pub loop-i-preserved : goal.loop-i-preserved
loop-i-preserved c =
    let q = c.loop-i in
    let a = c.args in
    let rows = a.rows.now in
    let run = a.run.now in
    let reading = reading_of rows run a.flip a.sequence.now in
    let i = q.i - 1 in
    let e : suc i ≡ q.i = omega arith in (
      refl,
      c.column.ensures.here_len_2,
      λ h.
          one_step rows c.requires.0 reading (length run) i h c.column.new.here q.after (own_by rows c.reads_at-reads.result)
          (λ r. ap (λ what. own_by rows what r) c.reads_at-reads.ensures ∙ read_there rows run a.flip a.sequence.now i r)
          (rw (add-one i) at c.column.ensures.cells)
          (λ l. subst (λ (k : ℕ). Right rows reading (length run) k q.after) (sym e) (q.invariant.2 (omega arith))),
    )
