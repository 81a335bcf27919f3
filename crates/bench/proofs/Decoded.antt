-- A requirement decoded from its body: the rows are the requirement's, and ready.
-- Assumes nothing.
use mathlib.Core.Path.{◌≡◌, sym, ◌∙◌, ap, subst}
use mathlib.Core.List.{List}
use Prim.Native.Nat.{ℕ, ◌<◌}
use native.Mathlib.Omega.{arith}
use lib.ListN.{length, take}
use Rattle.lengths.specs.Lengths.{most_table_rows}
use Rattle.rows.specs.Rows.{Row}
use Rattle.codec.specs.Codec.{rows_of}
use Rattle.codec.proofs.Bytes.{all_decoded, length_rows_of}
use Rattle.layout.specs.Layout.{form1, requirements_in, body_in}
use Rattle.layout.specs.Checks.{requirement_rows_in}
use Rattle.bench.specs.Files.{RowsReady, RequirementsReady}

module _
    {file : List ℕ} {q : ℕ} (ready : RequirementsReady file) (l : q < requirements_in file) {body : List ℕ} (is : body ≡ body_in form1 file q)
    {rows : List Row} (made : rows ≡ take most_table_rows (rows_of body)) where
  pub decoded : rows ≡ requirement_rows_in form1 file q
  decoded =
      made
      ∙ (all_decoded body (omega (arith, (ready.rows q l).few_rows, length_rows_of (body_in form1 file q), ap length is))).0
      ∙ ap rows_of is

  pub decoded_ready : RowsReady rows
  decoded_ready = subst RowsReady (sym decoded) (ready.rows q l)
