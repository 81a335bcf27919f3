-- `suite::check` meets its contract: contents that pass leave no requirement and no run too long.
use Rattle.std.proofs.Common.{rules}
use Rattle.layout.specs.Layout.{form1}
use Rattle.layout.specs.Checks.{of_suite}
use Rattle.suite_laws.proofs.Right.{contents_give}
use Rattle.suite_laws.proofs.Sizes.{few_rows, few_steps}
use Rattle.suite.proofs.check.Goals as goal

pub check_requirements-requires : goal.check_requirements-requires
check_requirements-requires c =
    let file = c.args.file.now in
    few_rows file ((contents_give form1 file of_suite c.in_ok-counts.counts).0 (search rules)).0

pub check_runs-requires : goal.check_runs-requires
check_runs-requires c =
    let file = c.args.file.now in
    few_steps file ((contents_give form1 file of_suite c.in_ok-counts.counts).0 (search rules)).0
