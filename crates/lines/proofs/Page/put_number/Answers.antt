-- `lines::Page::put_number` meets its contract: the kit's digits are the fewest, so they are the decimal digits, and are put as a word is.
use native.Mathlib.Omega.{arith}
use mathlib.Core.Path.{◌≡◌, ◌∙◌, ap}
use lib.ListN.{length, take}
use Rattle.lines.specs.Lines.{decimal}
use Rattle.lines.proofs.Decimal.{fewest_decimal}
use Rattle.lines.proofs.Page.put_number.Goals as goal

pub put_word-requires : goal.put_word-requires
put_word-requires g c =
    let fits = c.well_formed in
    let d = c.decimal-many in
    let spelled : take d.result d.new.out ≡ decimal c.args.n.0 = d.ensures.digits ∙ fewest_decimal d.result c.args.n.0 d.ensures.len in
    (omega arith, omega (arith, ap length spelled))

pub returns : goal.returns
returns g c =
    let d = c.decimal-many in
    let spelled : take d.result d.new.out ≡ decimal c.args.n.0 = d.ensures.digits ∙ fewest_decimal d.result c.args.n.0 d.ensures.len in
    rw spelled at c.put_word.ensures
