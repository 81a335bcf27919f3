-- `recorded::take_in` meets its contract: 3 of the limits, then what the log's check refuses, then 14 or the words.
use mathlib.Core.Path.{◌≡◌, refl, sym, ◌∙◌, ap}
use mathlib.Core.List.{List}
use Prim.Native.Nat.{ℕ}
use lib.IntN.{ℤ}
use lib.ListN.{length}
use Rattle.limits.specs.declared.Suite.{Suite}
use Rattle.figures.specs.Refusals.{Outcome, ◌then◌}
use Rattle.figures.specs.Refusals.Outcome.{gives}
use Rattle.limits.specs.Limits.{suite_of, suite_says}
use Rattle.figures.proofs.Known.{said}
use Rattle.laws.proofs.Lent.{along, answered}
use Rattle.laws.proofs.Passed.{lone_passes}
use Rattle.logs.specs.LogRefusals.{log_of, log_says}
use Rattle.logs.proofs.Given.{given_steps}
use Rattle.std.proofs.lemmas.Result.{err_from_is_err_and}
use Rattle.recorded.specs.Recorded.{room_for, taken_of}
use Rattle.recorded.proofs.take_in.Goals as goal

module _ (log : List ℕ) (limits : List ℤ) (room : ℕ) where
  -- what is answered from what the limits give, and from what the log gives
  abbrev from-limits : Outcome Suite → Outcome ℕ
  from-limits o = o then λ _. log_of log then λ n. room_for n room

  abbrev from-log : Outcome ℕ → Outcome ℕ
  from-log o = o then λ n. room_for n room

  by-limits : {o : Outcome Suite} → o ≡ suite_of (length limits) 1 1 → from-limits o ≡ taken_of log limits room
  unfolding taken_of
  by-limits e = ap from-limits e

  by-log : {s : Suite} {o : Outcome ℕ} → gives s ≡ suite_of (length limits) 1 1 → o ≡ log_of log → from-log o ≡ taken_of log limits room
  by-log e f = ap from-log f ∙ by-limits e

pub returns-in_err-lone : goal.returns-in_err-lone
returns-in_err-lone c =
    let a = c.args in
    let p = err_from_is_err_and c.from_residual.result c.from_residual.ensures.1 in
    let refused = said suite_says (λ o. o) c.lone.ensures c.in_err-lone.was in
    let both = answered _ _ (by-limits a.log.now a.limits.now (length a.out.now) refused) refl in
    record { result_value = rw (p.1, p.2) both.0; out_after = both.1 }

pub put_run-requires : goal.put_run-requires
put_run-requires c =
    let a = c.args in
    let made = said suite_says (λ o. o) c.lone.ensures c.in_ok-lone.was in
    let counted = said log_says (λ o. o) c.check_log.ensures c.in_ok-steps.was in
    let right = (given_steps a.log.now _).0 (sym counted) in
    (((lone_passes (length a.limits.now)).0 (_, sym made)).1, right.0.1.1, right.1.1)

pub returns-in_err-steps : goal.returns-in_err-steps
returns-in_err-steps c =
    let a = c.args in
    let p = err_from_is_err_and c.from_residual-in_err-steps.result c.from_residual-in_err-steps.ensures.1 in
    let made = said suite_says (λ o. o) c.lone.ensures c.in_ok-lone.was in
    let refused = said log_says (λ o. o) c.check_log.ensures c.in_err-steps.was in
    let both = answered _ _ (by-log a.log.now a.limits.now (length a.out.now) made refused) refl in
    record { result_value = rw (p.1, p.2) both.0; out_after = both.1 }

pub returns : goal.returns
returns c =
    let a = c.args in
    let made = said suite_says (λ o. o) c.lone.ensures c.in_ok-lone.was in
    let counted = said log_says (λ o. o) c.check_log.ensures c.in_ok-steps.was in
    let both = along _ _ (by-log a.log.now a.limits.now (length a.out.now) made counted) (c.put_run.ensures.result_value, c.put_run.ensures.out_after) in
    record { result_value = both.0; out_after = both.1 }
