pub mod Unique
pub mod Given
