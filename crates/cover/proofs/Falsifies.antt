-- What `witness` writes, read by the occurrence, makes the requirement false.
-- Assumes nothing.
use mathlib.Core.Path.{◌≡◌, sym, ◌∙◌, ap}
use mathlib.Core.Bool.{Bool, false, So, cond}
use mathlib.Core.List.{List}
use Rattle.std.specs.Prelude.{Option, Some}
use Prim.Native.Nat.{ℕ, ◌<◌}
use lib.ListN.{length, get_or, take, drop, length-replicate}
use lib.Seq.{take_at}
use Rattle.figures.specs.Refusals.{Outcome}
use Rattle.figures.specs.Refusals.Outcome.{gives}
use Rattle.rows.specs.Rows.{Row}
use Rattle.codec.specs.Codec.{rows_of}
use Rattle.rows.specs.Checks.{condition_at, occurrences}
use Rattle.row_laws.proofs.Occurring.{occurrence_there, occurrence_condition}
use Rattle.row_laws.proofs.Sound.{requirement as is_requirement}
use Rattle.signals.specs.Truth.{reads_of, verdict_of, sequence_of}
use Rattle.coverage.specs.Coverage.{flip, witness_bit}
use Rattle.cover.specs.Answers.{witness_of, lent_after}
use Rattle.coverage.specs.Coverage.{witness_bytes}
use Rattle.flips.proofs.Decide.{covered_means}
use Rattle.cover.proofs.Given.{witness_falsifies, given_covered}

module _ (requirement run : List ℕ) (conditions occurrence : ℕ) (out : List ℕ) where
  abbrev rows : List Row
  rows = rows_of requirement

  abbrev p : ℕ
  p = get_or (occurrences rows) occurrence 0

  abbrev says : Outcome (Option ℕ)
  says = witness_of requirement run conditions occurrence (length out)

  abbrev bytes : List ℕ
  bytes = witness_bytes rows p (length run)

  -- the verdict where the occurrence reads these bytes
  abbrev verdict : List ℕ → Bool
  verdict read = verdict_of rows (flip p (sequence_of read) (reads_of rows run)) (length run)

  pub falsifies : (n : ℕ) → says ≡ gives (Some n) → verdict (take n (lent_after says bytes out)) ≡ false
  falsifies n e =
      let (taken, (run_taken, (there, (covers, (room, steps))))) = (given_covered requirement run conditions occurrence (length out) n).0 e in
      let at : (p < length rows) × So (condition_at rows p) = occurrence_condition rows occurrence (sym (occurrence_there rows occurrence there)) in
      ap (λ o. verdict (take n (lent_after o bytes out))) e
      ∙ ap verdict (take_at bytes (drop n out) n (length-replicate (length run) (cond (witness_bit rows p) 1 0) ∙ steps))
      ∙ witness_falsifies rows (is_requirement rows conditions taken.1.0 taken.1.1) p at.0 at.1 (length run) run_taken.0.0
      (reads_of rows run) ((covered_means rows (reads_of rows run) (length run) p).1 covers)

  -- so the third promise of `witness` follows from the other two
  pub falsified :
      {o : Outcome (Option ℕ)} {after : List ℕ} → o ≡ says → after ≡ lent_after says bytes out → (n : ℕ) → o ≡ gives (Some n) →
      verdict (take n after) ≡ false
  falsified h l n e = ap (λ x. verdict (take n x)) l ∙ falsifies n (sym h ∙ e)
