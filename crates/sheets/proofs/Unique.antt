-- The operations `page` and `sheet`: what they answer and write is unique.
-- Assumes nothing.
use mathlib.Core.Path.{◌≡◌, sym, ◌∙◌}
use mathlib.Core.List.{List}
use Prim.Native.Nat.{ℕ}
use lib.ListN.{length}
use Rattle.std.specs.Prelude.{Result}
use Rattle.figures.specs.declared.ByteCount.{ByteCount}
use Rattle.figures.specs.declared.Refusal.{Refusal}
use Rattle.figures.specs.Outputs.{output_says}
use Rattle.figures.specs.Refusals.{Outcome}
use Rattle.laws.proofs.Lent.{Answered}
use Rattle.laws.proofs.Unique.{output_unique}
use Rattle.sheets.specs.Answers.{sheet_of_file, page_text, page_of, sheet_of}

-- what the contracts allow: an answer, and the lent bytes afterwards
abbrev pub PageAllowed : List ℕ → List ℕ → Result ByteCount Refusal → List ℕ → Type 0
PageAllowed file out a after = Answered (page_text file) out (page_of file (length out)) (output_says a) after

abbrev pub SheetAllowed : List ℕ → List ℕ → Result ByteCount Refusal → List ℕ → Type 0
SheetAllowed file out a after = Answered (sheet_of_file file) out (sheet_of file (length out)) (output_says a) after

equal :
    (text out : List ℕ) (says : Outcome ℕ) {a b : Result ByteCount Refusal} {after after' : List ℕ} → Answered text out says (output_says a) after →
    Answered text out says (output_says b) after' → (a ≡ b) × (after ≡ after')
equal text out says h g = (output_unique h.0 g.0, h.1 ∙ sym g.1)

module _ (file out : List ℕ) (a b : Result ByteCount Refusal) {after after' : List ℕ} where
  pub pages_equal : PageAllowed file out a after → PageAllowed file out b after' → (a ≡ b) × (after ≡ after')
  pages_equal = equal (page_text file) out (page_of file (length out))

  pub sheets_equal : SheetAllowed file out a after → SheetAllowed file out b after' → (a ≡ b) × (after ≡ after')
  sheets_equal = equal (sheet_of_file file) out (sheet_of file (length out))
