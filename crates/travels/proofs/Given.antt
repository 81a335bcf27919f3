-- The operation `page`: it is refused by 14 alone, exactly where the page does not fit; the page itself is the travels or one refusal line,
-- as the log's checks say, and never both.
-- Assumes nothing.
use mathlib.Core.Path.{◌≡◌, ap}
use mathlib.Core.Logic.{◌↔◌}
use mathlib.Core.List.{List}
use Prim.Native.Nat.{ℕ, ◌≤◌, ◌<◌}
use lib.ListN.{length}
use Rattle.figures.specs.declared.Place.{Place}
use Rattle.figures.specs.declared.Place.TheVariants as place
use Rattle.figures.specs.Refusals.Outcome.{refused, gives}
use Rattle.laws.proofs.Order.{Numbered}
use Rattle.lines.specs.Lines.{refused_line}
use Rattle.lines.specs.Texts.{page_by}
use Rattle.lines.proofs.Filled.{text_numbered, text_14, text_written}
use Rattle.logs.specs.LogRefusals.{log_of}
use Rattle.travels.specs.Travels.{travel_text, travel_page, travel_page_of}

module _ (log : List ℕ) where
  pub page_refused : (n : ℕ) (p : Place) → log_of log ≡ refused n p → travel_page log ≡ refused_line n p
  unfolding travel_page
  page_refused n p e = ap (λ o. page_by o (travel_text log)) e

  pub page_passed : (n : ℕ) → log_of log ≡ gives n → travel_page log ≡ travel_text log
  unfolding travel_page
  page_passed n e = ap (λ o. page_by o (travel_text log)) e

  module _ (room : ℕ) where
    pub page_numbered : Numbered (travel_page_of log room) 14
    page_numbered = text_numbered (travel_page log) room

    pub page_14 : (travel_page_of log room ≡ refused 14 place.None) ↔ (room < length (travel_page log))
    page_14 = text_14 (travel_page log) room

    pub page_written : (n : ℕ) → (travel_page_of log room ≡ gives n) ↔ ((length (travel_page log) ≤ room) × (length (travel_page log) ≡ n))
    page_written = text_written (travel_page log) room
