pub mod OneLine
pub mod Given
pub mod Unique
pub mod Examples
