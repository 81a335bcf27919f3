-- `codec::decode` meets its contract: the rows so far are pushed, one for each three bytes.
use native.Mathlib.Omega.{arith}
use native.Mathlib.Numerals.{add-one}
use mathlib.Core.List.{[], ◌∷◌, ◌++◌}
use mathlib.Core.Path.{◌∙◌, ap, ap₂}
use Prim.Native.Nat.{◌*◌, ◌/◌}
use lib.ListN.{length}
use Rattle.lengths.specs.Lengths.{row_bytes, most_table_rows}
use Rattle.figures.specs.Numbers.{tabulate}
use Rattle.laws.proofs.Parts.{rest_lent}
use Rattle.laws.proofs.Tabulated.{length_tabulate}
use Rattle.codec.specs.Codec.{row_of}
use Rattle.codec.proofs.Bytes.{row_there, taken}
use Rattle.std.proofs.Common.{rules}
use Rattle.codec.proofs.decode.Goals as goal

pub loop-r-init : goal.loop-r-init
unfolding tabulate
loop-r-init c = search rules

pub push-requires : goal.push-requires
push-requires c =
    let q = c.loop-r in
    omega (arith, ap length q.invariant, length_tabulate (row_of c.args.bytes.now) q.r, c.min-r-end.ensures)

pub loop-r-preserved : goal.loop-r-preserved
unfolding tabulate
loop-r-preserved c =
    let q = c.loop-r in
    let bytes = c.args.bytes.now in
    let there = c.row_of.ensures ∙ ap (λ l. row_of l 0) (rest_lent (row_bytes * q.r) bytes) ∙ row_there bytes q.r in
    rw add-one (c.push.ensures.items ∙ ap₂ (λ rows v. rows ++ (v ∷ [])) q.invariant there)

pub returns : goal.returns
returns c =
    let q = c.loop-r in
    let bytes = c.args.bytes.now in
    q.invariant ∙ taken (row_of bytes) (length bytes / row_bytes) most_table_rows q.r (omega (arith, c.min-r-end.ensures))
