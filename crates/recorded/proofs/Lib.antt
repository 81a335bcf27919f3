pub mod Filling
pub mod ConditionBits
pub mod Raising
pub mod Given
pub mod Accepted
pub mod Unique
pub mod Example
