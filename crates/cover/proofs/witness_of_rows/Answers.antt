-- `cover::witness_of_rows` meets its contract: past the checks there is a pair, and what the pair writes is lent back.
use mathlib.Core.Path.{sym, ◌∙◌, ap₂}
use lib.ListN.{length}
use Rattle.figures.specs.Refusals.{check_says, ◌then◌}
use Rattle.figures.proofs.Known.{said}
use Rattle.rows.specs.Checks.{occurrence_says, occurrence_of}
use Rattle.run_checks.specs.RunChecks.{run_checked}
use Rattle.cover.specs.Answers.{pair_says, lent_after}
use Rattle.coverage.specs.Coverage.{witness_bytes}
use Rattle.row_laws.proofs.Occurring.{occurrence_row}
use Rattle.cover.proofs.Accepted.{accepted}
use Rattle.cover.proofs.witness_of_rows.Goals as goal

pub witness_of_pair-requires : goal.witness_of_pair-requires
witness_of_pair-requires c =
    let a = c.args in
    let rows = said check_says (λ o. o) c.check_requirement_rows.ensures c.in_ok-check_requirement_rows.was in
    let run = said check_says (λ o. o) c.check_run.ensures c.in_ok-check_run.was in
    let there = said occurrence_says (λ o. o) c.occurrence_of.ensures c.in_ok-p.was in
    accepted a.rows.now a.occurrence.0 there a.run.now a.conditions.0 c.requires.2 c.requires.1 (tt, sym rows) (tt, sym run)

pub returns-clause-out_after : goal.returns-clause-out_after
returns-clause-out_after c =
    let a = c.args in
    let rows = a.rows.now in
    let run = a.run.now in
    let room = length a.out.now in
    let there = said occurrence_says (λ o. o) c.occurrence_of.ensures c.in_ok-p.was in
    let e =
    said occurrence_says (λ o. o then λ p. pair_says rows run room p) c.occurrence_of.ensures c.in_ok-p.was
    ∙ said check_says (λ o. o then λ _. occurrence_of rows a.occurrence.0 then λ p. pair_says rows run room p) c.check_run.ensures c.in_ok-check_run.was
    ∙ said check_says (λ o. o then λ _. run_checked a.conditions.0 run then λ _. occurrence_of rows a.occurrence.0 then λ p. pair_says rows run room p) c.check_requirement_rows.ensures c.in_ok-check_requirement_rows.was in
    c.witness_of_pair.ensures.out_after
    ∙ ap₂ (λ o p. lent_after o (witness_bytes rows p (length run)) a.out.now) e (occurrence_row rows a.occurrence.0 there)
