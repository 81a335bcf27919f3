-- The operations `sheet` and `page`: each refusal is given exactly when document 01 says, no other is, and the text is written exactly where none is.
-- Assumes nothing.
use mathlib.Core.Path.{◌≡◌, refl}
use mathlib.Core.Logic.Iff
use mathlib.Core.Logic.{◌↔◌, ◌⊎◌, inl, inr}
use mathlib.Core.List.{List}
use Prim.Native.Nat.{ℕ, ◌≤◌, ◌<◌}
use native.Mathlib.Omega.{arith}
use lib.ListN.{length}
use Rattle.figures.specs.declared.Place.{Place}
use Rattle.figures.specs.declared.Place.TheVariants as place
use Rattle.figures.specs.Refusals.Outcome.{refused, gives}
use Rattle.laws.proofs.Order.{Passes, Numbered, numbered_never, skip_never, stop, passes}
use Rattle.lines.specs.Texts.{text_of}
use Rattle.lines.proofs.Filled.{text_numbered, text_14, text_written}
use Rattle.layout.specs.Layout.{form1}
use Rattle.layout.specs.Checks.{counts_of, file_says}
use Rattle.suite_laws.proofs.Given.{OfFile, no_other as file_numbers, never_other}
use Rattle.suite_laws.proofs.Refused.{refuses_then}
use Rattle.suite_laws.proofs.Right.{FileRight, file_gives}
use Rattle.sheets.specs.Answers.{sheet_of_file, page_text, page_of, sheet_of}

module _ (file : List ℕ) (room : ℕ) where
  pub page_numbered : Numbered (page_of file room) 14
  page_numbered = text_numbered (page_text file) room

  pub page_14 : (page_of file room ≡ refused 14 place.None) ↔ (room < length (page_text file))
  page_14 = text_14 (page_text file) room

  pub page_written : (n : ℕ) → (page_of file room ≡ gives n) ↔ ((length (page_text file) ≤ room) × (length (page_text file) ≡ n))
  page_written = text_written (page_text file) room

  file_passes : Passes (file_says form1 file) ↔ FileRight form1 file
  file_passes = (
    λ h. ((file_gives form1 file h.0).0 h.1).0,
    λ right. (counts_of file, (file_gives form1 file (counts_of file)).1 (right, refl)),
  )

  -- the sheet is refused by no other number: 7, 10, 12, 13 and those past 14 never are given
  pub no_other : (n : ℕ) (p : Place) → sheet_of file room ≡ refused n p → OfFile n ⊎ (n ≡ 14)
  unfolding sheet_of
  no_other =
      refuses_then (λ n. OfFile n ⊎ (n ≡ 14)) (file_says form1 file) _ (λ n p e. inl (file_numbers form1 file n p e))
      (λ _ n p e. inr (text_numbered (sheet_of_file file) room n p e))

  -- below 14 they are the file's alone, given exactly when `suite` says of them
  pub by_file : (n : ℕ) (p : Place) → n < 14 → (sheet_of file room ≡ refused n p) ↔ (file_says form1 file ≡ refused n p)
  unfolding sheet_of
  by_file n p l =
      stop (text_of (sheet_of_file file) room) n (file_says form1 file) p
      (numbered_never n _ (text_numbered (sheet_of_file file) room) (λ e. omega arith))

  pub given_14 : (sheet_of file room ≡ refused 14 place.None) ↔ (FileRight form1 file × (room < length (sheet_of_file file)))
  unfolding sheet_of
  given_14 =
      Iff.trans (skip_never (text_of (sheet_of_file file) room) 14 (file_says form1 file) _ (never_other form1 file 14 (inr (inr (omega arith)))))
      (Iff.and file_passes (text_14 (sheet_of_file file) room))

  -- nothing is refused
  pub written :
      (n : ℕ) → (sheet_of file room ≡ gives n) ↔ (FileRight form1 file × (length (sheet_of_file file) ≤ room) × (length (sheet_of_file file) ≡ n))
  unfolding sheet_of
  written n =
      Iff.trans (passes (file_says form1 file) (text_of (sheet_of_file file) room) n)
      (Iff.trans (Iff.and file_passes (text_written (sheet_of_file file) room n)) (λ h. (h.0, h.1.0, h.1.1), λ h. (h.0, (h.1, h.2))))
