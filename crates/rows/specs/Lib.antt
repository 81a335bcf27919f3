pub mod Rows
pub mod Checks
