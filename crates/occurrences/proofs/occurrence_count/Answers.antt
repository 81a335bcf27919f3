-- `occurrences::occurrence_count` meets its contract: as many rows pass the test as there are places where it passes.
use mathlib.Core.Path.{◌∙◌}
use Rattle.std.proofs.Common.{rules, tests, []}
use Rattle.std.proofs.lemmas.Iterator.{YieldsList-from_slice}
use Rattle.std.proofs.lemmas.Iterator.Consumers.{YieldsList-at, YieldsList-from_filter, count_from_yields_List}
use Rattle.laws.proofs.Below.{filter_counted}
use Rattle.rows.specs.Checks.{is_condition}
use Rattle.occurrences.proofs.occurrence_count.Goals as goal

pub returns : goal.returns
returns c =
    count_from_yields_List _ _ c.count.ensures.ran (YieldsList-from_filter _ is_condition (YieldsList-at c.filter.ensures.source (YieldsList-from_slice c.args.rows.now cc)) c.filter.ensures.closure (λ x r q k. search (rules, tests)))
    ∙ filter_counted is_condition c.args.rows.now []
