pub mod Bools
pub mod ByKind
pub mod Unfold
pub mod Model
pub mod Plain
pub mod Cells
pub mod Columns
