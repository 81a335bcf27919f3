-- `truth::truth_of_rows` meets its contract: rows and a run that pass the checks are what the engine can take.
use mathlib.Core.Path.{sym}
use Rattle.figures.specs.Refusals.{check_says}
use Rattle.figures.proofs.Known.{said}
use Rattle.run_checks.proofs.Accepted.{some_step}
use Rattle.truth.proofs.Accepted.{fit}
use Rattle.truth.proofs.truth_of_rows.Goals as goal

pub judge-requires : goal.judge-requires
judge-requires c =
    let a = c.args in
    let p = c.requires in
    let rows = said check_says (λ o. o) c.check_rows.ensures c.in_ok-check_rows.was in
    let run = said check_says (λ o. o) c.check_run.ensures c.in_ok-check_run.was in
    (fit a.conditions.0 a.rows.now (tt, sym rows) p.2 p.1, p.0, some_step a.conditions.0 a.run.now (tt, sym run))
