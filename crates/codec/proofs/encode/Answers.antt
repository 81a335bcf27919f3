-- `codec::encode` meets its contract: the rows passed stand at the front of what was lent, and what stood there after them.
use native.Mathlib.Omega.{arith}
use mathlib.Core.Bool.{true}
use mathlib.Core.List.{◌++◌}
use mathlib.Core.Path.{◌≡◌, ◌∙◌, ap}
use Prim.Native.Nat.{◌+◌, ◌*◌, ◌/◌}
use borrow.Author.Tests.{le-leb, lt-leb}
use lib.ListN.{length, drop}
use lib.Seq.{take-length}
use Rattle.lengths.specs.Lengths.{row_bytes}
use Rattle.codec.specs.Codec.{bytes_of, fits, encode_of, encoded}
use Rattle.codec.proofs.Bytes.{written, length_written, write_more}
use Rattle.codec.proofs.encode.Goals as goal

pub returns-then-out-rows : goal.returns-then-out-rows
unfolding encode_of encoded
returns-then-out-rows c =
    let short = lt-leb _ _ c.if-out-rows.true in
    record { result_value = simp short; out_after = simp short }

pub loop-r-preserved : goal.loop-r-preserved
loop-r-preserved c =
    let q = c.loop-r in
    let a = c.args in
    let more = write_more a.rows.now a.out.now q.invariant.0 q.r q.out _ (omega arith) q.invariant.2 c.put_row.ensures in
    let size = length_written a.rows.now a.out.now q.invariant.0 (q.r + 1) (omega arith) in
    (q.invariant.0, ap length more ∙ size, more)

pub returns : goal.returns
unfolding encode_of encoded
returns c =
    let q = c.loop-r in
    let rows = c.args.rows.now in
    let out = c.args.out.now in
    let all : q.r ≡ length rows = omega arith in
    let room : fits rows (length out) ≡ true = le-leb (length rows) (length out / row_bytes) (omega arith) in record {
      result_value = simp room;
      out_after = simp room (q.invariant.2 ∙ ap (written rows out) all ∙ ap (λ l. bytes_of l ++ drop (3 * length rows) out) (take-length rows));
    }
