-- The limits that the code names are document 01's: the crates above decode by them, and ask them of sizes.
-- Assumes nothing.
use mathlib.Core.Path.{◌≡◌, refl}
use Rattle.lengths.specs.declared.TheConstants.{TABLE_ROWS, REQUIREMENT_ROWS, ROW_BYTES}
use Rattle.lengths.specs.Lengths.{most_table_rows, most_requirement_rows, row_bytes}

pub table_rows : TABLE_ROWS ≡ most_table_rows
table_rows = refl

pub requirement_rows : REQUIREMENT_ROWS ≡ most_requirement_rows
requirement_rows = refl

pub bytes_of_row : ROW_BYTES ≡ row_bytes
bytes_of_row = refl
