-- What `trap` writes and answers once the way is known: the copied rows, the added ones behind them, and 13 and 14.
-- Assumes nothing.
use mathlib.Core.Path.{◌≡◌, sym, ◌∙◌, ap, ap₂}
use mathlib.Core.List.{List, ◌++◌, append_assoc}
use Prim.Native.Nat.{ℕ, ◌+◌, ◌-◌, ◌*◌, ◌/◌, ◌≤◌, ◌<◌}
use native.Mathlib.Omega.{arith}
use borrow.Author.Tests.{le-leb, lt-leb}
use borrow.Rule.Slice.PartMut.{put_mid}
use lib.ListN.{length, take, drop, length-append, length-drop}
use lib.Seq.{take_at, drop_at, drop-drop}
use Rattle.figures.specs.declared.Refusal.TheVariants.{TrapRows, ShortOutput}
use Rattle.figures.specs.Refusals.{Outcome, refusal}
use Rattle.figures.specs.Refusals.Outcome.{gives}
use Rattle.lengths.specs.Lengths.{row_bytes, most_table_rows}
use Rattle.laws.proofs.Parts.{rest_lent, rest_back}
use Rattle.rows.specs.Rows.{Row}
use Rattle.codec.specs.Codec.{bytes_of, encode_of, encoded}
use Rattle.codec.proofs.Bytes.{bytes_of_append, length_bytes_of}
use Rattle.rules.specs.TrapRows.{trap_table, way, added}
use Rattle.trap.specs.Answers.{trap_for, lent_after, table_written}

-- rows that fit are written
pub encoded_fits : (rows : List Row) (out : List ℕ) → row_bytes * length rows ≤ length out → encoded rows out ≡ table_written rows out
unfolding encoded
encoded_fits rows out l = rw (le-leb (length rows) (length out / row_bytes) (omega arith))

-- rows written, and more rows into the rest of the buffer, are one table
pub both_written :
    (rows more : List Row) (out mid part : List ℕ) → 3 * (length rows + length more) ≤ length out → mid ≡ encoded rows out →
    part ≡ encoded more (take (length mid - 3 * length rows) (drop (3 * length rows) mid)) →
    put_mid (3 * length rows) (length mid - 3 * length rows) mid part ≡ table_written (rows ++ more) out
both_written rows more out mid part l is what =
    let end = 3 * length rows in
    let copied : mid ≡ table_written rows out = is ∙ encoded_fits rows out (omega arith) in
    let behind : drop end mid ≡ drop end out = ap (drop end) copied ∙ drop_at (bytes_of rows) (drop end out) end (length_bytes_of rows) in
    let written : part ≡ bytes_of more ++ drop (end + 3 * length more) out =
    what
    ∙ ap (encoded more) (rest_lent end mid ∙ behind)
    ∙ encoded_fits more (drop end out) (omega (arith, length-drop end out))
    ∙ ap (λ (x : List ℕ). bytes_of more ++ x) (drop-drop (3 * length more) end out) in
    let whole : end + 3 * length more ≡ row_bytes * length (rows ++ more) = omega (arith, length-append rows more) in
    rest_back end mid part (omega (arith, ap length copied, length-append (bytes_of rows) (drop end out), length_bytes_of rows))
    ∙ ap₂ ◌++◌ (ap (take end) copied ∙ take_at (bytes_of rows) (drop end out) end (length_bytes_of rows)) written
    ∙ sym (append_assoc (bytes_of rows) (bytes_of more) (drop (end + 3 * length more) out))
    ∙ ap₂ (λ (x : List ℕ) (k : ℕ). x ++ drop k out) (sym (bytes_of_append rows more)) whole

-- 13, 14 or the bytes written, and the buffer with each
module _ (rows : List Row) (p : ℕ) (out : List ℕ) where
  abbrev pub Answered : Outcome ℕ → List ℕ → Type 0
  Answered o after =
      (o ≡ trap_for rows (length out) p) × (after ≡ lent_after (trap_for rows (length out) p) (bytes_of (trap_table rows p)) out)

  answered : (o : Outcome ℕ) → o ≡ trap_for rows (length out) p → Answered o (lent_after o (bytes_of (trap_table rows p)) out)
  answered o e = (e, ap (λ (x : Outcome ℕ). lent_after x (bytes_of (trap_table rows p)) out) e)

  abbrev total : ℕ
  total = length rows + length (way added rows p).rows

  total_is : total ≡ length (trap_table rows p)
  total_is = sym (length-append rows (way added rows p).rows)

  pub too_many : most_table_rows < total → Answered (refusal TrapRows) out
  too_many l = answered (refusal TrapRows) (rw (lt-leb (length (trap_table rows p)) most_table_rows (omega (arith, total_is))))

  pub too_short : total ≤ most_table_rows → length out / row_bytes < total → Answered (refusal ShortOutput) out
  unfolding encode_of
  too_short l h =
      answered (refusal ShortOutput)
      (rw (le-leb (length (trap_table rows p)) most_table_rows (omega (arith, total_is)), lt-leb (length (trap_table rows p)) (length out / row_bytes) (omega (arith, total_is))))

  pub all_written : total ≤ most_table_rows → total ≤ length out / row_bytes → Answered (gives (row_bytes * total)) (table_written (trap_table rows p) out)
  unfolding encode_of
  all_written l h =
      let e : gives (row_bytes * length (trap_table rows p)) ≡ trap_for rows (length out) p =
      rw (le-leb (length (trap_table rows p)) most_table_rows (omega (arith, total_is)), le-leb (length (trap_table rows p)) (length out / row_bytes) (omega (arith, total_is))) in
      (ap (λ (k : ℕ). gives (row_bytes * k)) total_is ∙ e, (answered _ e).1)
