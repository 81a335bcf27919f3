pub mod RowLines
