-- `covs::row_of` meets its contract: an occurrence that is there has a row, so the search finds it.
use mathlib.Core.Path.{◌≡◌, sym, ◌∙◌, ap}
use Rattle.std.specs.Prelude.{Option}
use Rattle.figures.specs.declared.RowNumber.{RowNumber}
use Rattle.figures.specs.Refusals.Outcome.{gives}
use Rattle.rows.specs.Checks.{found_row, occurrence_at, occurrence_of}
use Rattle.row_laws.proofs.Occurring.{occurrence_row, occurrence_condition}
use Rattle.covs.proofs.row_of.Goals as goal

pub returns : goal.returns
returns c =
    let rows = c.args.rows.now in
    let o = c.args.o.0 in
    let there : gives c.unwrap.result.0 ≡ occurrence_of rows o =
    ap (λ (r : Option RowNumber). occurrence_at (found_row r)) (sym c.unwrap.ensures) ∙ ap occurrence_at c.occurrence_row.ensures in
    (occurrence_row rows o there, (occurrence_condition rows o there).0)
