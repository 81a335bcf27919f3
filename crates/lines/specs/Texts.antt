-- Whole texts: pieces one after the other, what a program prints, and what is answered where a text is to be written into lent bytes.
-- Assumes nothing.
use Rattle.std.specs.Prelude.{cond, List, [], ◌++◌, ℕ, zero, suc, leb, length}
use Rattle.figures.specs.declared.Refusal.TheVariants.{ShortOutput}
use Rattle.figures.specs.Refusals.{Outcome, refusal}
use Rattle.figures.specs.Refusals.Outcome.{refused, gives}
use Rattle.lines.specs.Lines.{refused_line}

-- f 0, then f 1, and so on for the numbers below m
unfoldable pub in_order : ℕ → (ℕ → List ℕ) → List ℕ
in_order zero f = []
in_order (suc m) f = in_order m f ++ f m

-- "A refusal, here and in every later program, prints only `refused`, number, place": that line, or else the text
abbrev pub page_by : {A : Type 0} → Outcome A → List ℕ → List ℕ
page_by (refused n p) text = refused_line n p
page_by (gives a) text = text

-- 14 for a text: its own length
abbrev pub text_of : List ℕ → ℕ → Outcome ℕ
text_of text room = cond (leb (length text) room) (gives (length text)) (refusal ShortOutput)
