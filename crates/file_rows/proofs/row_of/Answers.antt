-- `file_rows::row_of` meets its contract: the row that is read from where it starts in the requirement's bytes.
use native.Mathlib.Omega.{arith}
use mathlib.Core.Path.{◌∙◌}
use Rattle.file_rows.proofs.Bodies.{inside, three_lent, row_lent}
use Rattle.file_rows.proofs.row_of.Goals as goal

pub overflow_mul-p : goal.overflow_mul-p
overflow_mul-p c = omega (arith, inside c.requirement_bytes-body.ensures c.args.p.0 c.requires.1)

pub slice_bounds-row_of-count : goal.slice_bounds-row_of-count
slice_bounds-row_of-count c = omega (arith, inside c.requirement_bytes-body.ensures c.args.p.0 c.requires.1)

pub slice_bounds-row_of-start : goal.slice_bounds-row_of-start
slice_bounds-row_of-start c = omega (arith, inside c.requirement_bytes-body.ensures c.args.p.0 c.requires.1)

pub row_of-requires : goal.row_of-requires
row_of-requires c = three_lent c.requirement_bytes-body.ensures c.args.p.0 c.requires.1

pub returns : goal.returns
returns c = c.row_of.ensures ∙ row_lent c.requirement_bytes-body.ensures c.args.p.0 c.requires.1
