pub mod Signals
pub mod Truth
pub mod Column
