-- `row_lines::put_line` meets its contract: from the block's last step to its first, each word that is stored is the row's cell in every lane.
use borrow.Author.Tests.{ne_eqb}
use native.Mathlib.Omega.{arith}
use mathlib.Core.Path.{◌≡◌, sym, ◌∙◌}
use mathlib.Core.Bool.{and-false}
use Prim.Native.Nat.{suc, ◌-◌, ◌<◌}
use Rattle.lanes.proofs.Bitwise.{lane_none}
use Rattle.row_lines.specs.RowLines.{block_steps, line_at}
use Rattle.row_lines.proofs.Lined.{put, put_same, ahead_inside, step_passed}
use Rattle.row_lines.proofs.put_line.Goals as goal

pub loop-t-preserved : goal.loop-t-preserved
loop-t-preserved c =
    let q = c.loop-t in
    let a = c.args in
    let line = a.line in
    let inside = c.requires.0.row_inside in
    let t = q.t - 1 in
    let now : q.t ≡ suc t = omega arith in
    let early : t < block_steps = omega (arith, c.requires.1) in
    let p = q.invariant.0 in
    let v = c.cell-next.result in
    let is_a = p.kept line.first t early (λ _. omega arith) in
    let is_b = p.kept line.second t early (λ _. omega arith) in (
      step_passed a.kind line a.words.now a.steps a.lines.now q.lines t v c.own_lanes-own.result
          (line_at q.lines line.first t) (line_at q.lines line.second t) q.a_next q.next q.ends inside c.requires.1 (omega arith)
          (rw now at p) c.cell-next.ensures c.own_lanes-own.ensures is_a is_b (rw now at q.invariant.1) (rw now at q.invariant.2)
          (rw now at q.invariant.3),
      is_a ∙ sym (ahead_inside a.steps line.first_after a.lines.now line.first t (omega arith)),
      sym (put_same q.lines line.row t v inside early p.size)
          ∙ sym (ahead_inside a.steps line.row_after (put q.lines line.row t v) line.row t (omega arith)),
      λ k l. lane_none k ∙ rw (ne_eqb t a.steps (λ e. omega arith), and-false line.last),
    )
