-- The page is the sheet or one refusal line, never both and never neither.
-- Assumes nothing.
use mathlib.Core.Path.{◌≡◌, refl, ap}
use mathlib.Core.Logic.{◌⊎◌, inl, inr}
use mathlib.Core.List.{List}
use Prim.Native.Nat.{ℕ}
use native.Mathlib.Omega.{arith}
use lib.ListN.{get_or}
use Rattle.figures.specs.declared.Place.{Place}
use Rattle.limits.specs.declared.Suite.{Suite}
use Rattle.figures.specs.Refusals.{Outcome}
use Rattle.figures.specs.Refusals.Outcome.{refused, gives}
use Rattle.lines.specs.Lines.{refused_line}
use Rattle.lines.specs.Texts.{page_by}
use Rattle.layout.specs.Layout.{form1}
use Rattle.layout.specs.Checks.{file_says}
use Rattle.suite_laws.proofs.Right.{FileRight, file_gives}
use Rattle.bench.specs.Sheet.{sheet_text}
use Rattle.sheets.specs.Answers.{sheet_of_file, page_text}

module _ (file : List ℕ) where
  abbrev pub IsSheet : Type 0
  IsSheet = FileRight form1 file × (page_text file ≡ sheet_of_file file)

  abbrev pub IsRefusal : Type 0
  IsRefusal = (n : ℕ) × (p : Place) × (file_says form1 file ≡ refused n p) × (page_text file ≡ refused_line n p)

  pub page_is : IsSheet ⊎ IsRefusal
  unfolding page_text
  page_is = go (file_says form1 file) refl
    where
      go : (o : Outcome Suite) → file_says form1 file ≡ o → IsSheet ⊎ IsRefusal
      go (refused n p) e = inr (n, p, e, ap (λ o. page_by o (sheet_of_file file)) e)
      go (gives s) e = inl (((file_gives form1 file s).0 e).0, ap (λ o. page_by o (sheet_of_file file)) e)

  -- a sheet starts with an s, a refusal line with an r
  pub never_both : (n : ℕ) (p : Place) → sheet_of_file file ≡ refused_line n p → ⊥
  unfolding sheet_text refused_line
  never_both n p e = let first : ◌≡◌ {A = ℕ} 115 114 = ap (λ (l : List ℕ). get_or l 0 0) e in omega arith
