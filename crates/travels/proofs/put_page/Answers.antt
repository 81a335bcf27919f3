-- `travels::put_page` meets its contract: a log that is refused gives its line, and one that passes a line for each of its steps.
use native.Mathlib.Omega.{arith}
use mathlib.Core.Path.{sym}
use Rattle.logs.proofs.Given.{given_steps}
use Rattle.travels.proofs.Given.{page_refused, page_passed}
use Rattle.travels.proofs.put_page.Goals as goal

pub put_travels-requires : goal.put_travels-requires
put_travels-requires g c =
    let fits = c.well_formed in
    let h = (given_steps c.args.log.now c.in-Ok.steps.0).0 (sym c.in-Ok.ensures) in
    (omega arith, (omega (arith, h.0.1, h.1.1), omega (arith, h.0.1, h.1.1, c.requires)))

pub returns-in-Err : goal.returns-in-Err
returns-in-Err g c =
    rw (page_refused c.args.log.now _ _ (sym c.in-Err.ensures), ← c.number.ensures, ← c.place.ensures) c.put_refusal_line.ensures

pub returns-in-Ok : goal.returns-in-Ok
returns-in-Ok g c =
    let log = c.args.log.now in
    let passed = sym c.in-Ok.ensures in
    rw (page_passed log _ passed, ((given_steps log _).0 passed).1.1) c.put_travels.ensures
