-- `trap::trap_of_rows` meets its contract: the occurrence's row is one of the rows, and what `trap_at` writes there is lent back.
use mathlib.Core.Path.{◌∙◌, ap₂}
use lib.ListN.{length}
use Rattle.figures.specs.Refusals.{check_says, ◌then◌}
use Rattle.figures.proofs.Known.{said}
use Rattle.codec.specs.Codec.{bytes_of}
use Rattle.rows.specs.Checks.{occurrence_says, occurrence_of}
use Rattle.row_laws.proofs.Occurring.{occurrence_row, occurrence_condition}
use Rattle.rules.specs.TrapRows.{trap_table}
use Rattle.trap.specs.Answers.{trap_for, lent_after}
use Rattle.trap.proofs.trap_of_rows.Goals as goal

pub trap_at-requires : goal.trap_at-requires
trap_at-requires c =
    let a = c.args in
    let there = said occurrence_says (λ o. o) c.occurrence_of.ensures c.in_ok-p.was in
    (c.requires, (occurrence_condition a.rows.now a.occurrence.0 there).0)

pub returns-clause-out_after : goal.returns-clause-out_after
returns-clause-out_after c =
    let a = c.args in
    let rows = a.rows.now in
    let room = length a.out.now in
    let there = said occurrence_says (λ o. o) c.occurrence_of.ensures c.in_ok-p.was in
    let e =
    said occurrence_says (λ o. o then λ p. trap_for rows room p) c.occurrence_of.ensures c.in_ok-p.was
    ∙ said check_says (λ o. o then λ _. occurrence_of rows a.occurrence.0 then λ p. trap_for rows room p) c.check_requirement_rows.ensures c.in_ok-check_requirement_rows.was in
    c.trap_at.ensures.out_after
    ∙ ap₂ (λ o p. lent_after o (bytes_of (trap_table rows p)) a.out.now) e (occurrence_row rows a.occurrence.0 there)
