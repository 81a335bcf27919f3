-- `listing::list` meets its contract: it gives the refusal of the file, or what its own requirements and runs give.
use mathlib.Core.Path.{◌≡◌, refl, ap, ◌∙◌}
use mathlib.Core.List.{List}
use Prim.Native.Nat.{ℕ}
use lib.ListN.{length}
use Rattle.limits.specs.declared.Suite.{Suite}
use Rattle.figures.specs.Refusals.{Outcome, ◌then◌}
use Rattle.layout.specs.Layout.{form1}
use Rattle.layout.specs.Checks.{file_says}
use Rattle.listing.specs.Answers.{list_from, list_of, listed}
use Rattle.laws.proofs.Lent.{along, answered}
use Rattle.std.proofs.lemmas.Result.{err_from_is_err_and}
use Rattle.listing.proofs.list.Goals as goal

-- the answer from the file's checks on
by_file :
    (file : List ℕ) (q room : ℕ) {o : Outcome Suite} → o ≡ file_says form1 file → (o then λ _. list_from file file q room) ≡ list_of file q room
unfolding list_of
by_file file q room e = ap (λ o. o then λ _. list_from file file q room) e

pub returns-in_err-counts : goal.returns-in_err-counts
returns-in_err-counts c =
    let a = c.args in
    let both = answered _ _ (by_file a.file.now a.q.0 (length a.out.now) c.in_err-counts.ensures) refl in
    let p = err_from_is_err_and c.from_residual.result c.from_residual.ensures.1 in
    rw (p.1, p.2) (record { result_value = both.0; out_after = both.1 })

pub returns : goal.returns
returns c =
    let a = c.args in
    let both = along (listed a.file.now a.q.0) a.out.now (by_file a.file.now a.q.0 (length a.out.now) c.in_ok-counts.ensures)
    (rw (c.of.ensures, c.of-2.ensures) at c.list_from.ensures.result_value, rw (c.of.ensures, c.of-2.ensures) at c.list_from.ensures.out_after) in
    record { result_value = both.0; out_after = both.1 }
