-- The most bytes of a travel's line and of a page. Nobody needs to believe this page: that they suffice is proved.
-- Assumes nothing.
use Rattle.std.specs.Prelude.{ℕ, ◌*◌}
use Rattle.lengths.specs.Lengths.{most_steps}

-- a sign, nine digits and a line feed
abbrev pub travel_line_most : ℕ
travel_line_most = 11

abbrev pub travel_page_most : ℕ
travel_page_most = travel_line_most * most_steps
