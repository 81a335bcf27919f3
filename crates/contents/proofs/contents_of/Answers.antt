-- `contents::contents_of` meets its contract: every entry passed is right, so the first that is not is the lowest, and the last body's end follows.
use native.Mathlib.Omega.{arith}
use mathlib.Core.Path.{ap}
use Rattle.std.proofs.Common.{rules}
use Rattle.laws.proofs.Lowest.{stopped_at}
use Rattle.layout.specs.Layout.{form1, items_in, entry_right}
use Rattle.layout.specs.Checks.{contents_found}
use Rattle.contents.proofs.contents_of.Goals as goal

pub returns-then-not-entry_right : goal.returns-then-not-entry_right
returns-then-not-entry_right c =
    let file = c.args.file.now in
    ap (contents_found form1 file)
    (stopped_at (entry_right form1 file) (items_in file) c.loop-k.k c.loop-k.invariant.2 (omega (arith, c.items_of-k-end.ensures.0)) (search rules))
