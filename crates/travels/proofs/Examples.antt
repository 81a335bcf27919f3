-- Travels as text, worked out: a number of each sign, a pause, a wrap up and a wrap down, and a log of each refusal.
-- Assumes nothing.
use mathlib.Core.Path.{◌≡◌, refl}
use mathlib.Core.List.{[], ◌∷◌}
use lib.IntN.{pos, negsuc}
use Rattle.figures.specs.Numbers.{lowest}
use Rattle.lengths.specs.Lengths.{run_of}
use Rattle.lines.specs.Lines.{decimal_by, decimal, refused_line}
use Rattle.lines.specs.Texts.{in_order}
use Rattle.encoder.specs.Log.{wrapped, signed, travel}
use Rattle.logs.specs.LogRefusals.{log_of}
use Rattle.travels.specs.Travels.{travel_line, travel_page}

-- 0, 5 and -1
pub lines_of_numbers :
    (travel_line (pos 0) ≡ 48 ∷ 10 ∷ []) × (travel_line (pos 5) ≡ 53 ∷ 10 ∷ []) × (travel_line (negsuc 0) ≡ 45 ∷ 49 ∷ 10 ∷ [])
unfolding decimal decimal_by
lines_of_numbers = (refl, refl, refl)

-- the counts 65,534 and then 2, 2 and 65,535: travel 0, 4, 4 and 1
pub wrapped_up_and_down : travel_page (254 ∷ 255 ∷ 2 ∷ 0 ∷ 2 ∷ 0 ∷ 255 ∷ 255 ∷ []) ≡ 48 ∷ 10 ∷ 52 ∷ 10 ∷ 52 ∷ 10 ∷ 49 ∷ 10 ∷ []
unfolding travel_page log_of run_of lowest in_order travel signed wrapped decimal decimal_by
wrapped_up_and_down = refl

-- the counts 1 and then 65,534: travel 0 and -3
pub below_zero : travel_page (1 ∷ 0 ∷ 254 ∷ 255 ∷ []) ≡ 48 ∷ 10 ∷ 45 ∷ 51 ∷ 10 ∷ []
unfolding travel_page log_of run_of lowest in_order travel signed wrapped decimal decimal_by
below_zero = refl

-- no step, an odd number of bytes, and half a turn
pub refused_lines :
    (travel_page [] ≡ 114 ∷ 101 ∷ 102 ∷ 117 ∷ 115 ∷ 101 ∷ 100 ∷ 32 ∷ 49 ∷ 48 ∷ 32 ∷ 48 ∷ 10 ∷ [])
    × (travel_page (1 ∷ 0 ∷ 2 ∷ []) ≡ 114 ∷ 101 ∷ 102 ∷ 117 ∷ 115 ∷ 101 ∷ 100 ∷ 32 ∷ 49 ∷ 48 ∷ 32 ∷ 48 ∷ 10 ∷ [])
    × (travel_page (1 ∷ 0 ∷ 1 ∷ 128 ∷ []) ≡ 114 ∷ 101 ∷ 102 ∷ 117 ∷ 115 ∷ 101 ∷ 100 ∷ 32 ∷ 49 ∷ 55 ∷ 32 ∷ 49 ∷ 10 ∷ [])
unfolding travel_page log_of run_of lowest wrapped refused_line decimal decimal_by
refused_lines = (refl, refl, refl)
