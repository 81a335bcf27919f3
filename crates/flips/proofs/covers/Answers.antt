-- `flips::covers` meets its contract: it asks the two verdicts that decide coverage, of the run and of the witness.
use mathlib.Core.Path.{◌≡◌, sym, ◌∙◌, ap}
use mathlib.Core.Bool.{Bool, true, false, not, ◌&&◌}
use mathlib.Core.List.{List}
use Prim.Native.Nat.{ℕ}
use borrow.Author.Tests.{not-true, not-false}
use lib.ListN.{length, replicate}
use Rattle.std.proofs.lemmas.List.{take-replicate}
use Rattle.lengths.specs.Lengths.{most_steps}
use Rattle.rows.specs.Rows.{Row}
use Rattle.signals.specs.Truth.{reads_of, flip, verdict_of, holds, sequence_of}
use Rattle.coverage.specs.Coverage.{covered}
use Rattle.flips.specs.Pair.{Pair}
use Rattle.coverage.specs.Coverage.{witness_bytes}
use Rattle.flips.proofs.Decide.{covered_by_bytes}
use Rattle.flips.proofs.covers.Goals as goal

module _ {rows : List Row} {run : List ℕ} {p : ℕ} (pair : Pair rows run p) where
  -- the verdict where the occurrence reads these bytes
  abbrev flipped : List ℕ → Bool
  flipped bytes = verdict_of rows (flip p (sequence_of bytes) (reads_of rows run)) (length run)

  abbrev covers : Bool
  covers = covered rows (reads_of rows run) (length run) p

  decided : covers ≡ (holds rows run && not (flipped (witness_bytes rows p (length run))))
  decided = covered_by_bytes rows pair.is p pair.inside pair.condition (length run) pair.some_step (reads_of rows run)

  failed : {b : Bool} → b ≡ holds rows run → b ≡ false → false ≡ covers
  failed is e = sym (decided ∙ rw (sym is ∙ e))

  held :
      {b r : Bool} (bytes : List ℕ) → b ≡ holds rows run → b ≡ true → bytes ≡ witness_bytes rows p (length run) → r ≡ flipped bytes →
      not r ≡ covers
  held bytes is e w f = sym (decided ∙ rw (sym is ∙ e, ← w, ← f))

pub returns-then-not-judge : goal.returns-then-not-judge
returns-then-not-judge c =
    let judge = c.judge in
    failed c.requires judge.ensures (not-true judge.result (ap not c.if-not-judge.true))

pub returns : goal.returns
returns c =
    let n = length c.args.run.now in
    let judge = c.judge in
    held c.requires _ judge.ensures (not-false judge.result (ap not c.if-not-judge.false))
    (take-replicate n most_steps _ c.requires.few_steps ∙ ap (replicate n) c.witness_byte-sequence.ensures)
    c.judge-2.ensures
