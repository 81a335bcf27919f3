-- `marking::mark_runs` meets its contract: the marks of the runs passed are right, and the count is that of those that the requirement holds of.
use native.Mathlib.Omega.{arith}
use mathlib.Core.Path.{◌≡◌, sym, ◌∙◌, ap, subst}
use mathlib.Core.Bool.{Bool}
use mathlib.Core.List.{List}
use Prim.Native.Nat.{ℕ, ◌+◌, ◌<◌}
use native.Mathlib.Decide.{ℕ_discrete}
use Rattle.limits.specs.Limits.{most_runs}
use Rattle.rows.specs.Rows.{Row}
use Rattle.signals.specs.Truth.{holds}
use Rattle.layout.specs.Layout.{form1}
use Rattle.layout.specs.Checks.{words_of, run_words_in}
use Rattle.bench.specs.Tables.{marked, mark_of, Marked, ColumnMarked}
use Rattle.marking.proofs.mark_runs.Invariants.{held}
use Rattle.marking.proofs.Numbered.{size_with}
use Rattle.std.proofs.Common.{rules}
use Rattle.marking.proofs.mark_runs.Goals as goal

-- one run more
marked_more :
    (rows : List Row) (words : ℕ → List ℕ) {j : ℕ} {before after : List Bool} → j < most_runs → Marked rows words j before →
    ColumnMarked rows (words j) j before after → Marked rows words (j + 1) after
marked_more rows words {j} {before} {after} few right column p i lp li = go (ℕ_discrete i j)
  where
    go : Dec (i ≡ j) → marked after p i ≡ mark_of rows (words i) p
    go (yes e) = subst (λ (k : ℕ). marked after p k ≡ mark_of rows (words k) p) (sym e) (column.here p lp)
    go (no e) = column.others p i (omega arith) e ∙ right p i lp (omega arith)

-- of a run that is another by name alone
same-run :
    {rows : List Row} {lent run : List ℕ} {j : ℕ} {before after : List Bool} → lent ≡ run → ColumnMarked rows lent j before after →
    ColumnMarked rows run j before after
same-run {rows} {j = j} {before} {after} = subst (λ words. ColumnMarked rows words j before after)

pub loop-j-preserved : goal.loop-j-preserved
loop-j-preserved c =
    let q = c.loop-j in
    let file = c.args.runs.file.now in
    let rows = c.args.rows.now in
    let run = ap words_of c.run_bytes-run.ensures in
    let marked = c.mark_run-held in
    let more = size_with q.j (held file rows) (marked.ensures.value ∙ ap (holds rows) run) in
    let column = same-run run marked.ensures.column_marked in (
      omega (arith, more),
      search (rules, q.invariant.1),
      marked_more rows (run_words_in form1 file) (omega (arith, c.args.runs.ready.few_runs)) q.invariant.2 column,
      marked.ensures.lines_len,
    )
