pub mod Unique
pub mod Given
pub mod Either
pub mod Lengths
