pub mod Layout
pub mod Checks
pub mod Written
