-- `file_rows::row_count` meets its contract: the bytes lent are the requirement's, three a row.
use native.Mathlib.Omega.{arith}
use Rattle.file_rows.proofs.Bodies.{rows_of_lem}
use Rattle.file_rows.proofs.row_count.Goals as goal

pub returns : goal.returns
returns c =
    let asked = c.args.requirements in
    let many = rows_of_lem c.requirement_bytes-body.ensures in
    let there = rw asked.counted at c.requires in
    (many, omega (arith, many, (asked.ready.rows c.args.q.0 there).few_rows))
