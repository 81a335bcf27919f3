pub mod LaterSteps
pub mod Given
pub mod Unique
