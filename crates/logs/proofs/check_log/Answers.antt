-- `logs::check_log` meets its contract: an odd number of bytes and then the constructor are refused by 10, and then 17 is asked.
use mathlib.Core.Path.{◌≡◌, sym, ◌∙◌}
use mathlib.Core.List.{List}
use Prim.Native.Nat.{ℕ, ◌%◌}
use borrow.Author.Tests.{eq-eqb, ne_eqb}
use lib.ListN.{length}
use Rattle.std.proofs.lemmas.Result.{err_from_is_err_and}
use Rattle.lengths.specs.Lengths.{run_of, run_says}
use Rattle.figures.specs.Refusals.{Outcome, ◌then◌}
use Rattle.figures.specs.Refusals.Outcome.{gives}
use Rattle.figures.proofs.Known.{said}
use Rattle.laws.proofs.Passed.{run_passes}
use Rattle.encoder.specs.Log.{count_bytes, lowest_half_turn, steps_in}
use Rattle.logs.specs.LogRefusals.{log_of, turns_of}
use Rattle.logs.proofs.check_log.Goals as goal

-- what is answered of a log with an even number of bytes
abbrev sized : List ℕ → Outcome ℕ → Outcome ℕ
sized log o = o then λ n. turns_of (lowest_half_turn log) then λ _. gives n

even : (log : List ℕ) → length log % count_bytes ≡ 0 → log_of log ≡ sized log (run_of (steps_in log))
unfolding log_of
even log e = rw (eq-eqb (length log % count_bytes) 0 e)

pub returns-then-log-ne0 : goal.returns-then-log-ne0
unfolding log_of
returns-then-log-ne0 c = rw (ne_eqb (length c.args.log.now % count_bytes) 0 c.if-log-ne0.true)

pub check_turns-requires : goal.check_turns-requires
check_turns-requires c =
    ((run_passes _).0 (_, sym (said run_says (λ o. o) c.new.ensures c.in_ok-run.was))).1

pub returns-in_err-run : goal.returns-in_err-run
returns-in_err-run c =
    let log = c.args.log.now in
    let p = err_from_is_err_and c.from_residual.result c.from_residual.ensures.1 in
    rw (p.1, p.2)
    (said run_says (sized log) c.new.ensures c.in_err-run.was
    ∙ sym (even log c.if-log-ne0.false))

pub returns : goal.returns
returns c =
    let log = c.args.log.now in
    c.check_turns.ensures
    ∙ said run_says (sized log) c.new.ensures c.in_ok-run.was
    ∙ sym (even log c.if-log-ne0.false)
