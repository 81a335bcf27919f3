-- A text that is to be written into lent bytes is refused by 14 exactly where it does not fit, and written where it does.
-- Assumes nothing.
use mathlib.Core.Path.{◌≡◌}
use mathlib.Core.Logic.Iff
use mathlib.Core.Logic.{◌↔◌}
use mathlib.Core.List.{List}
use Prim.Native.Nat.{ℕ, ◌≤◌, ◌<◌}
use borrow.Author.Tests.{leb-true, le-leb}
use lib.Dec.{leb}
use lib.ListN.{length}
use Rattle.figures.specs.declared.Place.TheVariants as place
use Rattle.figures.specs.declared.Refusal.TheVariants.{ShortOutput}
use Rattle.figures.specs.Refusals.Outcome.{refused, gives}
use Rattle.laws.proofs.Given.{refused_when, over_means}
use Rattle.laws.proofs.Order.{Numbered, test_numbered, test_gives}
use Rattle.lines.specs.Texts.{text_of}

-- a text is refused by 14 alone, exactly where it does not fit
module _ (text : List ℕ) (room : ℕ) where
  pub text_numbered : Numbered (text_of text room) 14
  text_numbered = test_numbered (length text) ShortOutput (leb (length text) room)

  pub text_14 : (text_of text room ≡ refused 14 place.None) ↔ (room < length text)
  text_14 = Iff.trans (refused_when (length text) ShortOutput _) (over_means (length text) room)

  pub text_written : (n : ℕ) → (text_of text room ≡ gives n) ↔ ((length text ≤ room) × (length text ≡ n))
  text_written n = Iff.trans (test_gives (length text) ShortOutput _ n) (Iff.and (leb-true _ room, le-leb _ room) Iff.rfl)
