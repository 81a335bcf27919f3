pub mod Accepted
pub mod Given
