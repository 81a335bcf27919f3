-- The room that the code gives a sheet is that of the longest sheet.
-- Assumes nothing.
use mathlib.Core.Path.{◌≡◌, refl}
use Rattle.bench.specs.declared.TheConstants.Longest.{SHEET}
use Rattle.bench.specs.Longest.{sheet_most}

pub sheet_room : sheet_most ≡ SHEET
sheet_room = refl
